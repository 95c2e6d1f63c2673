use Rattle.std.proofs.Common.{◌≡◌, ℕ, ◌*◌, ◌≤◌, true, List, ◌++◌, length, vec_items, sym, ap, ◌∙◌, subst}
use Rattle.std.specs.List.{AllByRecursion}
use Rattle.std.proofs.lemmas.List.{append-nil}
use Rattle.law.specs.Family.{parents, line_lives}
use Rattle.ways.specs.Ways.{heads_ways}
use Rattle.ways.specs.Rows.{in_row, law_ways}
use Rattle.ways.specs.Going.{family_in}
use Rattle.reasons.specs.Estates.{Put}
use Rattle.reasons.proofs.Orders.{kept_living, kept_lives, parents_few, lines_order, ways_first, ways_second, ways_third, ways_nobody}
use Rattle.reasons.proofs.relatives.Goals as goal

pub returns-in-Children : goal.returns-in-Children
returns-in-Children c =
    record {
      put = λ rk k l.
          subst (λ row. Put (law_ways (vec_items c.args.ways.now)) row (law_ways (vec_items c.first_order.new.ways)) c.first_order.result)
          (sym (ways_first (family_in c.args.descent.now) c.args.descent.now.decedent c.args.by (lines_order k c.args.lines.now l ∙ sym c.in-Children.ensures.value)))
          (c.first_order.ensures.put rk k (c.deref.ensures.value ∙ l.children));
    }

pub returns-in-Parents : goal.returns-in-Parents
returns-in-Parents c =
    record {
      put = λ rk k l.
          let f = family_in c.args.descent.now in
          let d = c.args.descent.now.decedent in
          let s = in_row c.args.descent.now.lives.now in
          let e = c.deref-in-Parents.ensures.value ∙ l.parents in
          subst (λ row. Put (law_ways (vec_items c.args.ways.now)) row (law_ways (vec_items c.couple.new.ways)) c.couple.result)
          (ap (λ (xs : List ℕ). heads_ways f d xs (c.args.by * length xs)) (e ∙ kept_living k (parents f d))
          ∙ sym (ways_second f d c.args.by (lines_order k c.args.lines.now l ∙ sym c.in-Parents.ensures.value)))
          (c.couple.ensures.put rk k (subst (AllByRecursion (λ q. line_lives f d q ≡ true)) (sym e) (kept_lives k (parents f d)))
          (subst (λ (xs : List ℕ). length xs ≤ 2) (sym e) (parents_few s f d)));
    }

pub returns-in-Grandparents : goal.returns-in-Grandparents
returns-in-Grandparents c =
    record {
      put = λ rk k l.
          subst (λ row. Put (law_ways (vec_items c.args.ways.now)) row (law_ways (vec_items c.third_order.new.ways)) c.third_order.result)
          (sym (ways_third (family_in c.args.descent.now) c.args.descent.now.decedent c.args.by (lines_order k c.args.lines.now l ∙ sym c.in-Grandparents.ensures.value)))
          (c.third_order.ensures.put rk k l);
    }

pub returns-in-Nobody : goal.returns-in-Nobody
returns-in-Nobody c =
    record {
      put = λ rk k l.
          sym (append-nil (law_ways (vec_items c.args.ways.now)))
          ∙ ap (λ row. law_ways (vec_items c.args.ways.now) ++ row)
          (sym (ways_nobody (family_in c.args.descent.now) c.args.descent.now.decedent c.args.by (lines_order k c.args.lines.now l ∙ sym c.in-Nobody.ensures.value)));
    }
