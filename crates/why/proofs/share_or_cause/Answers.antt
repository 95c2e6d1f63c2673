use Rattle.std.proofs.Common.{◌≡◌, List, [], ◌∷◌, length, vec_items, vec_len, sym, refl, ap, ◌∙◌, arith}
use Rattle.std.proofs.lemmas.List.{length-map}
use Rattle.std.proofs.lemmas.Bool.{eqb-true, eqb-false}
use Rattle.people.specs.Persons.{law_person}
use Rattle.ways.specs.Rows.{family_of}
use Rattle.why.specs.Explained.{explanation, explanations, parts_to, ways_to}
use Rattle.why.proofs.Sums.{held_ways, pieces_fit, sum_right, no_way}
use Rattle.why.proofs.share_or_cause.Goals as goal

-- a row without length is empty
empty : {X : Type 0} (xs : List X) → length xs ≡ 0 → xs ≡ []
empty [] e = refl
empty (x ∷ xs) e = absurd (omega arith)

pub returns-then-is_empty : goal.returns-then-is_empty
returns-then-is_empty c =
    record {
      right = λ formed there divided.
          let f = family_of c.args.family.now in
          let d = c.args.decedent in
          let w = c.args.who in
          let parts = c.in_ok-reasons.reasons.parts in
          let size = length-map c.args.family.now law_person in
          let none : ways_to f d w ≡ [] =
          sym (c.in_ok-reasons.ensures.parts ∙ ap (parts_to w) (held_ways f d c.args.estate.now divided))
          ∙ ap explanations (empty (vec_items parts) (sym parts.ok.0 ∙ eqb-true (vec_len parts) 0 (sym c.is_empty.ensures ∙ c.if-is_empty.true))) in
          record {
            there = omega arith;
            within = divided.within;
            none = none;
            cause = c.in_ok-cause.ensures.holds formed.rank formed.ranked there (no_way f d w none);
          };
    }

pub returns : goal.returns
returns c =
    record {
      right = λ formed there divided.
          let f = family_of c.args.family.now in
          let d = c.args.decedent in
          let w = c.args.who in
          let parts = c.in_ok-reasons.reasons.parts in
          let size = length-map c.args.family.now law_person in
          let all = c.in_ok-reasons.ensures.parts ∙ ap (parts_to w) (held_ways f d c.args.estate.now divided) in
          let some = eqb-false (vec_len parts) 0 (sym c.is_empty.ensures ∙ c.if-is_empty.false) in
          record {
            there = omega arith;
            within = divided.within;
            parts = all;
            some = omega (arith, ap length all, length-map (vec_items parts) explanation, parts.ok.0);
            sum = c.in_ok-reasons.ensures.sum (pieces_fit f d w c.args.estate.now formed divided) ∙ sum_right f d w c.args.estate.now divided;
          };
    }
