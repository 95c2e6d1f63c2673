-- The answer to each call is right, and the only right one; and a desk that gives it keeps the promises. Assumes nothing.
use Rattle.std.proofs.Common.{◌≡◌, ℕ, ◌<◌, ◌≤◌, Bool, true, false, cond, eqb, List, [], ◌∷◌, refl, ap, ◌∙◌, subst, arith}
use Rattle.std.proofs.lemmas.Bool.{eqb-true}
use Rattle.law.specs.Family.{Family, estate}
use Rattle.law.specs.Calls.{Call, born, wed, parted, dies, estate_of, unreadable, Answer, refused, shares, Limits, refusal_of, refusal, place, after, common_multiple, may_say, right_if, right}
use Rattle.law.specs.Promise.{Memory, Desk, all_right, Right, ran, left_by, RefusalKeeps}
use Rattle.theory.specs.Shares.{shares_of}
use Rattle.theory.specs.Answers.{answer_taken, answer_to, OneRightAnswer}
use Rattle.theory.proofs.Refusals.{by_rules, estate_taken}
use Rattle.theory.proofs.Multiples.{common_multiple_divides}
use Rattle.theory.proofs.Shares.{shares_right}
use Rattle.theory.proofs.OneAnswer.{one_answer}

taken_right : (l : Limits) (f : Family) (c : Call) → refusal_of l f c ≡ 0 → may_say f c (answer_taken f c)
unfolding may_say answer_taken refusal_of
taken_right l f (born m d) t = refl
taken_right l f (wed a b) t = refl
taken_right l f (parted a) t = refl
taken_right l f (dies a) t = refl
taken_right l f (estate_of a) t = (shares_of (estate f a), refl, shares_right (estate f a) (estate_taken l f a t).2)
taken_right l f (unreadable k) t = omega arith

pub answer_right : (l : Limits) (f : Family) (c : Call) → right l f c (answer_to l f c)
unfolding right_if
answer_right l f c = go (eqb (refusal l f c) 0) refl
  where
    go : (b : Bool) → eqb (refusal l f c) 0 ≡ b → right_if b l f c (cond b (answer_taken f c) (refused (refusal l f c) (place c)))
    go true e = taken_right l f c (by_rules l f c (eqb-true (refusal l f c) 0 e))
    go false e = refl

taken_only : (l : Limits) (f : Family) (c : Call) (a : Answer) → refusal_of l f c ≡ 0 → may_say f c a → a ≡ answer_taken f c
unfolding may_say answer_taken refusal_of
taken_only l f (born m d) a t h = h
taken_only l f (wed x y) a t h = h
taken_only l f (parted x) a t h = h
taken_only l f (dies x) a t h = h
taken_only l f (estate_of x) a t h =
    let z = (estate_taken l f x t).2 in
    h.1
    ∙ ap shares
    (one_answer (estate f x) (common_multiple (estate f x) 1) h.0 (shares_of (estate f x)) (omega arith) (common_multiple_divides (estate f x) 1 z).1 h.2 (shares_right (estate f x) z))
taken_only l f (unreadable k) a t h = absurd h

pub answer_only : (l : Limits) (f : Family) (c : Call) (a : Answer) → right l f c a → a ≡ answer_to l f c
unfolding right_if
answer_only l f c a h = go (eqb (refusal l f c) 0) refl h
  where
    go : (b : Bool) → eqb (refusal l f c) 0 ≡ b → right_if b l f c a → a ≡ cond b (answer_taken f c) (refused (refusal l f c) (place c))
    go true e h = taken_only l f c a (by_rules l f c (eqb-true (refusal l f c) 0 e)) h
    go false e h = h

pub one_right_answer : OneRightAnswer
unfolding OneRightAnswer
one_right_answer l f c = (answer_right l f c, answer_only l f c)

-- an answer is right if computing it gives it
pub right_by_computing : (l : Limits) (f : Family) (c : Call) (a : Answer) → answer_to l f c ≡ a → right l f c a
right_by_computing l f c a e = subst (right l f c) e (answer_right l f c)

-- the promises of a desk, by what holds between its memory and the family
module _ (d : Desk) (Holds : Limits → Memory → Family → Type 0) where
  all_right_by : (l : Limits) → ((m : Memory) (f : Family) (c : Call) → Holds l m f → right l f c (d.says m c) × Holds l (d.next m c) (after l f c))
      → (m : Memory) (f : Family) (cs : List Call) → Holds l m f → all_right d l m f cs
  unfolding all_right
  all_right_by l step m f [] h = 0
  all_right_by l step m f (c ∷ cs) h = let r = step m f c h in (r.0, all_right_by l step (d.next m c) (after l f c) cs r.1)

  left_holds : (l : Limits) → ((m : Memory) (f : Family) (c : Call) → Holds l m f → Holds l (d.next m c) (after l f c)) → (m : Memory) (f : Family) (cs : List Call) → Holds l m f
      → Holds l (left_by d m cs) (ran l f cs)
  unfolding left_by ran
  left_holds l step m f [] h = h
  left_holds l step m f (c ∷ cs) h = left_holds l step (d.next m c) (after l f c) cs (step m f c h)

  module _ (can : ℕ → Bool) (start : (l : Limits) → l.persons ≤ 4096 → l.calls_can ≡ can → Holds l (d.opened l) []) where
    pub right_by : ((l : Limits) (m : Memory) (f : Family) (c : Call) → Holds l m f → right l f c (d.says m c) × Holds l (d.next m c) (after l f c)) → Right can d
    unfolding Right
    right_by step l cs p q = all_right_by l (step l) (d.opened l) [] cs (start l p q)

    pub keeps_by : ((l : Limits) (m : Memory) (f : Family) (c : Call) → Holds l m f → Holds l (d.next m c) (after l f c))
        → ((l : Limits) (m : Memory) (f : Family) (c : Call) → Holds l m f → 0 < refusal l f c → d.next m c ≡ m) → RefusalKeeps can d
    unfolding RefusalKeeps
    keeps_by step keep l cs c p q t = keep l (left_by d (d.opened l) cs) (ran l [] cs) c (left_holds l (step l) (d.opened l) [] cs (start l p q)) t
