use Rattle.std.proofs.Common.{◌≡◌, ℕ, ◌+◌, ◌*◌, ◌≤◌, true, cond, eqb, List, ◌++◌, length, vec_items, vec_len, sym, refl, ap, ◌∙◌, subst, ap₂}
use Rattle.std.specs.List.{AllByRecursion}
use Rattle.law.specs.Family.{person, line_lives}
use Rattle.ways.specs.Ways.{heads_ways}
use Rattle.ways.specs.Going.{Beyond, family_in}
use Rattle.ways.specs.Rows.{law_ways}
use Rattle.ways.proofs.Going.{handed_on}
use Rattle.reasons.specs.Estates.{side_in, Known, Put}
use Rattle.reasons.specs.declared.Lines.{Lines}
use Rattle.reasons.proofs.Orders.{one_if, third_is, beyond_first, put_both, side_few, side_kept, kept_lives}
use Rattle.reasons.proofs.third_order.Goals as goal

-- what is asked of a side
side_ready : {f : _} {rk : ℕ → ℕ} {d : ℕ} {s : ℕ → _} → Known f rk d s → (link : ℕ) (xs : List ℕ) → xs ≡ side_in s f link →
    AllByRecursion (λ p. line_lives f d p ≡ true) xs × (length xs ≤ 2)
side_ready {f} {rk} {d} {s} k link xs e =
    (subst (AllByRecursion (λ p. line_lives f d p ≡ true)) (sym e) (side_kept s f link (kept_lives k)), subst (λ (ys : List ℕ). length ys ≤ 2) (sym e) (side_few s f link))

sides_by : (l : Lines) (b side n : ℕ) → side ≡ b * n → n ≡ cond (eqb (vec_len l.mothers) 0) 0 1 + cond (eqb (vec_len l.fathers) 0) 0 1 →
    side ≡ b * (one_if (vec_items l.mothers) + one_if (vec_items l.fathers))
sides_by l b side n e h = e ∙ ap (λ z. b * z) (h ∙ ap₂ (λ (x y : ℕ). cond (eqb x 0) 0 1 + cond (eqb y 0) 0 1) l.mothers.ok.0 l.fathers.ok.0)

pub returns-in_err-couple : goal.returns-in_err-couple
returns-in_err-couple c =
    record {
      put = λ rk k l.
          let f = family_in c.args.descent.now in
          let d = c.args.descent.now.decedent in
          let lines = c.args.lines.now in
          let side = c.args.by * c.living_sides.result in
          let before = law_ways (vec_items c.args.ways.now) in
          let first = heads_ways f d c.deref.result.now (side * length c.deref.result.now) in
          let second = heads_ways f d (vec_items lines.fathers) (side * length (vec_items lines.fathers)) in
          let m = side_ready k (person f d).mother c.deref.result.now (c.deref.ensures.value ∙ l.mothers) in
          handed_on c.from_residual.result _ (Beyond before first) _ c.in_err-couple.field-0.0 c.from_residual.ensures.1
          (λ h.
          subst (Beyond before)
          (ap (λ (xs : List ℕ). heads_ways f d xs (side * length xs) ++ second) c.deref.ensures.value
          ∙ sym (third_is k (vec_items lines.mothers) (vec_items lines.fathers) l.mothers l.fathers c.args.by side (sides_by lines c.args.by side c.living_sides.result refl c.living_sides.ensures.value)))
          (beyond_first before first second h))
          (c.in_err-couple.ensures.put rk k m.0 m.1);
    }

pub returns : goal.returns
returns c =
    record {
      put = λ rk k l.
          let f = family_in c.args.descent.now in
          let d = c.args.descent.now.decedent in
          let lines = c.args.lines.now in
          let side = c.args.by * c.living_sides.result in
          let before = law_ways (vec_items c.args.ways.now) in
          let m = side_ready k (person f d).mother c.deref.result.now (c.deref.ensures.value ∙ l.mothers) in
          let e = side_ready k (person f d).father c.deref-2.result.now (c.deref-2.ensures.value ∙ l.fathers) in
          subst (λ row. Put before row (law_ways (vec_items c.couple-2.new.ways)) c.couple-2.result)
          (ap₂ (λ (xs ys : List ℕ). heads_ways f d xs (side * length xs) ++ heads_ways f d ys (side * length ys)) c.deref.ensures.value c.deref-2.ensures.value
          ∙ sym (third_is k (vec_items lines.mothers) (vec_items lines.fathers) l.mothers l.fathers c.args.by side (sides_by lines c.args.by side c.living_sides.result refl c.living_sides.ensures.value)))
          (put_both before (heads_ways f d c.deref.result.now (side * length c.deref.result.now)) (heads_ways f d c.deref-2.result.now (side * length c.deref-2.result.now))
          (law_ways (vec_items c.couple.new.ways)) (law_ways (vec_items c.couple-2.new.ways)) c.couple-2.result (c.in_ok-couple.ensures.put rk k m.0 m.1) (c.couple-2.ensures.put rk k e.0 e.1));
    }
