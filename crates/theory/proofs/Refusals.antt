-- What it takes for a call not to be refused, and what the family is then. Assumes nothing.
use Rattle.std.proofs.Common.{◌≡◌, ℕ, suc, ◌<◌, ◌≤◌, Bool, true, false, cond, not, ◌&&◌, ◌||◌, eqb, ltb, leb, ◌≢◌, length, refl, ◌∙◌, arith}
use Rattle.std.proofs.lemmas.Bool.{and_parts, or_right, ltb-true, leb-true, eqb-true, eqb-false, lt-ltb, eq-eqb, ne_eqb, not-true, cond-true, cond-false}
use Rattle.law.specs.Family.{person, Family, estate}
use Rattle.law.specs.Calls.{Call, born, wed, parted, dies, estate_of, Limits, call_number, there, unmarried, common_multiple, refusal_of, refusal, changed, after}

-- a refusal's number that is 0: the test passed, or failed
passed : (b : Bool) (x k : ℕ) → cond b x (suc k) ≡ 0 → (b ≡ true) × (x ≡ 0)
passed true x k e = (refl, e)
passed false x k e = (absurd (omega arith), absurd (omega arith))

failed : (b : Bool) (k x : ℕ) → cond b (suc k) x ≡ 0 → (b ≡ false) × (x ≡ 0)
failed true k x e = (absurd (omega arith), absurd (omega arith))
failed false k x e = (refl, e)

-- the family after a call
pub after_taken : (l : Limits) (f : Family) (c : Call) → refusal l f c ≡ 0 → after l f c ≡ changed f c
after_taken l f c e = cond-true (eqb (refusal l f c) 0) (changed f c) f (eq-eqb (refusal l f c) 0 e)

pub after_refused : (l : Limits) (f : Family) (c : Call) → refusal l f c ≢ 0 → after l f c ≡ f
after_refused l f c e = cond-false (eqb (refusal l f c) 0) (changed f c) f (ne_eqb (refusal l f c) 0 e)

-- a call that is taken is taken by the rules; and one that the stage takes is taken if the rules take it
pub by_rules : (l : Limits) (f : Family) (c : Call) → refusal l f c ≡ 0 → refusal_of l f c ≡ 0
by_rules l f c e = (passed (eqb (call_number c) 255 || l.calls_can (call_number c)) (refusal_of l f c) 1 e).1

pub by_stage : (l : Limits) (f : Family) (c : Call) → l.calls_can (call_number c) ≡ true → refusal l f c ≡ refusal_of l f c
by_stage l f c s =
    cond-true (eqb (call_number c) 255 || l.calls_can (call_number c)) (refusal_of l f c) 2 (or_right (eqb (call_number c) 255) (l.calls_can (call_number c)) s)

-- what holds where a call is taken
pub born_taken : (l : Limits) (f : Family) (m d : ℕ) → refusal_of l f (born m d) ≡ 0 → (m ≤ length f) × (d ≤ length f) × (length f < l.persons)
unfolding refusal_of
born_taken l f m d e =
    let t = passed (leb m (length f) && (leb d (length f) && (eqb m 0 || not (eqb m d)))) (cond (ltb (length f) l.persons) 0 6) 3 e in
    let u = and_parts (leb m (length f)) (leb d (length f) && (eqb m 0 || not (eqb m d))) t.0 in
    let v = and_parts (leb d (length f)) (eqb m 0 || not (eqb m d)) u.1 in
    let w = passed (ltb (length f) l.persons) 0 5 t.1 in
    (leb-true m (length f) u.0, leb-true d (length f) v.0, ltb-true (length f) l.persons w.0)

pub wed_taken : (l : Limits) (f : Family) (a b : ℕ) → refusal_of l f (wed a b) ≡ 0
    → (a < length f) × (b < length f) × (a ≢ b) × ((person f a).spouse ≡ 0) × ((person f b).spouse ≡ 0)
unfolding refusal_of
wed_taken l f a b e =
    let both = ((person f a).lives && (person f b).lives) && (unmarried f a && unmarried f b) in
    let t = passed (there f a && there f b) (cond (not (eqb a b) && both) 0 5) 3 e in
    let u = and_parts (there f a) (there f b) t.0 in
    let w = and_parts (not (eqb a b)) both (passed (not (eqb a b) && both) 0 4 t.1).0 in
    let x = and_parts ((person f a).lives && (person f b).lives) (unmarried f a && unmarried f b) w.1 in
    let y = and_parts (unmarried f a) (unmarried f b) x.1 in (
      ltb-true a (length f) u.0,
      ltb-true b (length f) u.1,
      eqb-false a b (not-true (eqb a b) w.0),
      eqb-true (person f a).spouse 0 y.0,
      eqb-true (person f b).spouse 0 y.1,
    )

pub parted_taken : (l : Limits) (f : Family) (a : ℕ) → refusal_of l f (parted a) ≡ 0 → (a < length f) × ((person f a).spouse ≢ 0)
unfolding refusal_of
parted_taken l f a e =
    let t = passed (there f a) (cond (unmarried f a) 5 0) 3 e in
    (ltb-true a (length f) t.0, eqb-false (person f a).spouse 0 (failed (unmarried f a) 4 0 t.1).0)

pub dies_taken : (l : Limits) (f : Family) (a : ℕ) → refusal_of l f (dies a) ≡ 0 → (a < length f) × ((person f a).lives ≡ true)
unfolding refusal_of
dies_taken l f a e =
    let t = passed (there f a) (cond (person f a).lives 0 5) 3 e in
    (ltb-true a (length f) t.0, (passed (person f a).lives 0 4 t.1).0)

pub estate_taken : (l : Limits) (f : Family) (a : ℕ) → refusal_of l f (estate_of a) ≡ 0
    → (a < length f) × (length (estate f a) ≤ 4096) × (common_multiple (estate f a) 1 ≢ 0)
unfolding refusal_of
estate_taken l f a e =
    let t = passed (there f a) (cond (leb (length (estate f a)) 4096 && not (eqb (common_multiple (estate f a) 1) 0)) 0 6) 3 e in
    let u = passed (leb (length (estate f a)) 4096 && not (eqb (common_multiple (estate f a) 1) 0)) 0 5 t.1 in
    let v = and_parts (leb (length (estate f a)) 4096) (not (eqb (common_multiple (estate f a) 1) 0)) u.0 in (
      ltb-true a (length f) t.0,
      leb-true (length (estate f a)) 4096 v.0,
      eqb-false (common_multiple (estate f a) 1) 0 (not-true (eqb (common_multiple (estate f a) 1) 0) v.1),
    )

-- a death is taken of who is there and lives
pub dies_allowed : (l : Limits) (f : Family) (a : ℕ) → l.calls_can 3 ≡ true → a < length f → (person f a).lives ≡ true → refusal l f (dies a) ≡ 0
unfolding call_number refusal_of
dies_allowed l f a s h v =
    by_stage l f (dies a) s
    ∙ (cond-true (there f a) (cond (person f a).lives 0 5) 4 (lt-ltb a (length f) h) ∙ cond-true (person f a).lives 0 5 v)
