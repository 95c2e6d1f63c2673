use Rattle.std.proofs.Common.{◌≡◌, ℕ, suc, ◌-◌, ◌*◌, ◌≤◌, List, [], ◌∷◌, ◌++◌, length, get_or, take, vec_items, vec_len, sym, refl, ap, ◌∙◌, subst, inl, inr, ⊎_elim, arith}
use Rattle.std.proofs.lemmas.List.{take_all, map-append, append-nil, length-map}
use Rattle.std.proofs.ByRecursion.{All-get_or}
use Rattle.std.specs.List.{AllByRecursion}
use Rattle.law.specs.Family.{children, living_lines}
use Rattle.theory.specs.Families.{Ranked}
use Rattle.ways.specs.Ways.{line_ways_in}
use Rattle.ways.specs.Rows.{in_row, law_way, law_ways}
use Rattle.ways.specs.Going.{ways_below, Enough, Beyond, family_in}
use Rattle.ways.proofs.Going.{way_standing, way_divided, below_more, stopped_at, no_steps, enough_below, line_large, kept_lines, went_on, refused_by, refused_if, handed_on}
use Rattle.ways.proofs.Descent.+go_down.Goals as goal
use Rattle.ways.proofs.Descent.+go_down.Goals.{then-stands+in_ok-put_way, else-stands+in_ok-below+in_ok-each+in_ok-go_down}

pub loop-who-init : goal.loop-who-init
loop-who-init t c = λ right. sym (append-nil (law_ways (vec_items c.args.ways.now)))

pub loop-who-preserved : goal.loop-who-preserved
loop-who-preserved t c = λ right.
    let f = family_in c.args.self.now in
    let d = c.args.self.now.decedent in
    let n = c.args.steps in
    let xs = c.args.above.now in
    let ps = c.args.heads.now in
    let i = c.loop-who.who-index in
    let p = get_or ps i 0 in
    let b = c.args.by in
    let before = law_ways (vec_items c.args.ways.now) in
    let mid = law_ways (vec_items c.loop-who.ways) in
    let after = law_ways (vec_items c.if-stands.ways) in
    let line : vec_items c.in_ok-line.line ≡ xs ++ (p ∷ []) = c.in_ok-line.ensures.value in
    let row = line_ways_in (suc n) f d (xs ++ (p ∷ [])) p b in
    let went : after ≡ mid ++ row =
    elim c.if-stands.branch [
      | then-stands+in_ok-put_way w ↦
          ap (λ v. law_ways (vec_items v)) w.ways-is
          ∙ ap law_ways w.in_ok-put_way.ensures.put
          ∙ map-append law_way (vec_items c.loop-who.ways) _
          ∙ ap (λ (l : List ℕ). mid ++ (record { line = l; who = p; by = b } ∷ [])) line
          ∙ ap (λ r. mid ++ r) (sym (way_standing f d n (xs ++ (p ∷ [])) p b (sym c.stands.ensures.value ∙ w.if-stands.true)))
      | else-stands+in_ok-below+in_ok-each+in_ok-go_down w ↦
          let cs = vec_items w.in_ok-below.below in
          let each = w.in_ok-each.each in
          let found = rw w.in_ok-each.ensures.ok_part at w.each_of.ensures.cases in
          let long : w.len.result ≡ length cs = w.len.ensures ∙ w.in_ok-below.below.ok.0 in
          ap (λ u. law_ways (vec_items u)) w.ways-is
          ∙ w.in_ok-go_down.ensures.went right
          ∙ ap (λ ys. mid ++ ways_below (n - 1) f d ys w.deref-else-stands.result.now each) (w.deref.ensures.value ∙ line)
          ∙ ap (λ zs. mid ++ ways_below (n - 1) f d (xs ++ (p ∷ [])) zs each) w.deref-else-stands.ensures.value
          ∙ ap (λ r. mid ++ r)
          (sym (way_divided f d n (in_row c.args.self.now.lives.now) (xs ++ (p ∷ [])) cs p b each right w.in_ok-below.ensures.value (sym c.stands.ensures.value ∙ w.if-stands.false) (found.0 ∙ ap (λ k. b * k) long) found.1))
    ] in
    went_on before mid after (ways_below n f d xs (take i ps) b) row (c.loop-who.invariant right) went
    ∙ ap (λ r. before ++ r) (sym (below_more f d n xs b ps i p c.loop-who-test.true refl))

pub returns : goal.returns
returns t c =
    record {
      went = λ right.
          c.loop-who.invariant right
          ∙ ap (λ hs. law_ways (vec_items c.args.ways.now) ++ ways_below c.args.steps (family_in c.args.self.now) c.args.self.now.decedent c.args.above.now hs c.args.by)
          (take_all c.loop-who.who-index c.args.heads.now c.loop-who-test.false);
    }

pub returns-in_err-put_way : goal.returns-in_err-put_way
returns-in_err-put_way t c =
    record {
      went = λ right.
          let f = family_in c.args.self.now in
          let d = c.args.self.now.decedent in
          let n = c.args.steps in
          let xs = c.args.above.now in
          let ps = c.args.heads.now in
          let i = c.loop-who.who-index in
          let p = get_or ps i 0 in
          let b = c.args.by in
          let before = law_ways (vec_items c.args.ways.now) in
          let mid = law_ways (vec_items c.loop-who.ways) in
          let row = line_ways_in (suc n) f d (xs ++ (p ∷ [])) p b in
          let one = ap length (way_standing f d n (xs ++ (p ∷ [])) p b (sym c.stands.ensures.value ∙ c.if-stands.true)) in
          let stop : 4096 ≤ vec_len c.loop-who.ways → Beyond mid row = λ full. inl (omega (arith, one, full, c.loop-who.ways.ok.0, length-map (vec_items c.loop-who.ways) law_way)) in
          handed_on c.from_residual-in_err-put_way.result _ (4096 ≤ vec_len c.loop-who.ways) _ c.in_err-put_way.field-0.0 c.from_residual-in_err-put_way.ensures.1
          (λ full rk ranked enough. stopped_at f d n xs b ps i before mid c.loop-who-test.true (c.loop-who.invariant right) (stop full))
          (refused_if _ c.in_err-put_way.field-0.0 c.in_err-put_way.ensures.beyond);
    }

pub returns-in_err-each : goal.returns-in_err-each
returns-in_err-each t c =
    record {
      went = λ right.
          let f = family_in c.args.self.now in
          let d = c.args.self.now.decedent in
          let n = c.args.steps in
          let xs = c.args.above.now in
          let ps = c.args.heads.now in
          let i = c.loop-who.who-index in
          let p = get_or ps i 0 in
          let b = c.args.by in
          let before = law_ways (vec_items c.args.ways.now) in
          let mid = law_ways (vec_items c.loop-who.ways) in
          let row = line_ways_in (suc n) f d (xs ++ (p ∷ [])) p b in
          let cs = vec_items c.in_ok-below.below in
          let dead = sym c.stands.ensures.value ∙ c.if-stands.false in
          let long : c.len.result ≡ length cs = c.len.ensures ∙ c.in_ok-below.below.ok.0 in
          let found : cs ≡ living_lines f d (children f p) =
          c.in_ok-below.ensures.value ∙ kept_lines f d (in_row c.args.self.now.lives.now) (children f p) right in
          let none = rw c.in_err-each.ensures.ok_part at c.each_of.ensures.cases in
          let stop : (rk : ℕ → ℕ) → Ranked f rk → Enough f rk d n p → Beyond mid row = λ rk ranked here.
          ⊎_elim (λ (z : n ≡ 0). absurd (no_steps f d ranked p (subst (λ m. Enough f rk d m p) z here) dead))
          (λ (z : 4294967296 ≤ b * c.len.result).
          inr (line_large f d ranked n p b (xs ++ (p ∷ [])) here.1 dead (subst (λ k. 4294967296 ≤ b * k) (long ∙ ap length found) z))) none in
          handed_on c.from_residual-in_err-each.result _ ((rk : ℕ → ℕ) → Ranked f rk → Enough f rk d n p → Beyond mid row) _ c.in_err-each.field-0.0 c.from_residual-in_err-each.ensures.1
          (λ h rk ranked enough.
          stopped_at f d n xs b ps i before mid c.loop-who-test.true (c.loop-who.invariant right)
          (h rk ranked (All-get_or (Enough f rk d n) ps i 0 c.loop-who-test.true enough)))
          (refused_by _ c.in_err-each.field-0.0 stop);
    }

pub returns-in_err-go_down : goal.returns-in_err-go_down
returns-in_err-go_down t c =
    record {
      went = λ right.
          let f = family_in c.args.self.now in
          let d = c.args.self.now.decedent in
          let n = c.args.steps in
          let xs = c.args.above.now in
          let ps = c.args.heads.now in
          let i = c.loop-who.who-index in
          let p = get_or ps i 0 in
          let b = c.args.by in
          let before = law_ways (vec_items c.args.ways.now) in
          let mid = law_ways (vec_items c.loop-who.ways) in
          let row = line_ways_in (suc n) f d (xs ++ (p ∷ [])) p b in
          let cs = vec_items c.in_ok-below.below in
          let each = c.in_ok-each.each in
          let dead = sym c.stands.ensures.value ∙ c.if-stands.false in
          let long : c.len.result ≡ length cs = c.len.ensures ∙ c.in_ok-below.below.ok.0 in
          let found : cs ≡ living_lines f d (children f p) =
          c.in_ok-below.ensures.value ∙ kept_lines f d (in_row c.args.self.now.lives.now) (children f p) right in
          let met = rw c.in_ok-each.ensures.ok_part at c.each_of.ensures.cases in
          let below = ways_below (n - 1) f d c.deref.result.now c.deref-else-stands.result.now each in
          let same : below ≡ row =
          ap (λ ys. ways_below (n - 1) f d ys c.deref-else-stands.result.now each) (c.deref.ensures.value ∙ c.in_ok-line.ensures.value)
          ∙ ap (λ zs. ways_below (n - 1) f d (xs ++ (p ∷ [])) zs each) c.deref-else-stands.ensures.value
          ∙ sym (way_divided f d n (in_row c.args.self.now.lives.now) (xs ++ (p ∷ [])) cs p b each right c.in_ok-below.ensures.value dead (met.0 ∙ ap (λ k. b * k) long) met.1) in
          handed_on c.from_residual-in_err-go_down.result _
          ((rk : ℕ → ℕ) → Ranked f rk → AllByRecursion (Enough f rk d (n - 1)) c.deref-else-stands.result.now → Beyond mid below) _ c.in_err-go_down.field-0.0 c.from_residual-in_err-go_down.ensures.1
          (λ h rk ranked enough.
          let here : Enough f rk d n p = All-get_or (Enough f rk d n) ps i 0 c.loop-who-test.true enough in
          stopped_at f d n xs b ps i before mid c.loop-who-test.true (c.loop-who.invariant right)
          (subst (λ r. Beyond mid r) same
          (h rk ranked (enough_below f d ranked n p c.deref-else-stands.result.now (c.deref-else-stands.ensures.value ∙ found) here met.1))))
          (c.in_err-go_down.ensures.went right);
    }
