-- What a call gives and leaves, from what its reply says. Assumes nothing.
use Rattle.std.proofs.Common.{◌≡◌, ℕ, ◌<◌, ◌≤◌, eqb, List, length, ℤ, pos, Ok, Err, sym, refl, ap, ◌∙◌, subst, arith, w64, to_z, of_z}
use lib.Signed.{mag}
use Rattle.std.proofs.lemmas.Int.{ints, to_z-of_z}
use Rattle.std.proofs.lemmas.Bool.{eq-eqb, ne_eqb, cond-true, cond-false}
use Rattle.law.specs.Family.{Family}
use Rattle.law.specs.Calls.{Call, born, wed, parted, dies, estate_of, unreadable, Answer, refused, Limits, refusal, refusal_of, call_number, place, after, changed}
use Rattle.law.specs.Promise.{Memory, all_calls}
use Rattle.rows.specs.Written.{written}
use Rattle.wire.specs.Bytes.{read, answer_bytes}
use Rattle.people.specs.Layout.{limit_in, family_in, rest_in, image, Sound}
use Rattle.theory.specs.Answers.{answer_taken}
use Rattle.service.specs.Desks.{limits, state, next, says, bytes_asked}
use Rattle.service.specs.Refusals.{refusal_number, refusal_place}
use Rattle.service.specs.Service.{Replied}
use Rattle.service.specs.declared.refusal.Refusal.{Refusal}
use Rattle.service.specs.declared.refusal.Refusal.TheVariants.{Unreadable, NotTaken, TooManyPersons, TooSmall, NotThere, NotAllowed, BeyondLimit}
use Rattle.register.proofs.Fits.{says_fits}
use Rattle.exports.specs.Results.{signed_refusal, signed_answer, bytes_with, Ready, Called}

-- a signed value and its bits
pub bits_back : (z : ℤ) → mag z < 9223372036854775808 → to_z w64 (of_z w64 z) ≡ z
bits_back z h = to_z-of_z w64 z (record { sfits = h })

pub below_zero : (n p k : ℕ) → 1 ≤ n → signed_refusal n p ≡ pos k → ⊥
below_zero n p k h e = omega (arith, ints)

-- an answer that is no refusal
abbrev Told : Answer → List ℕ → Type 0
Told a lent = (signed_answer a ≡ pos (length (answer_bytes a))) × (bytes_with a lent ≡ written 0 (answer_bytes a) lent)

taken_told : (l : Limits) (f : Family) (c : Call) (lent : List ℕ) → refusal l f c ≡ 0 → Told (answer_taken f c) lent
unfolding answer_taken refusal_of call_number
taken_told l f (born m d) lent e = (refl, refl)
taken_told l f (wed a b) lent e = (refl, refl)
taken_told l f (parted a) lent e = (refl, refl)
taken_told l f (dies a) lent e = (refl, refl)
taken_told l f (estate_of a) lent e = (refl, refl)
taken_told l f (unreadable k) lent e = absurd (omega arith)

says_told : (ws : List ℕ) (c : Call) (lent : List ℕ) → refusal (limits (limit_in ws)) (family_in ws) c ≡ 0 → Told (says all_calls (state ws) c) lent
says_told ws c lent e =
    let l = limits (limit_in ws) in
    let f = family_in ws in
    subst (λ a. Told a lent) (sym (cond-true (eqb (refusal l f c) 0) (answer_taken f c) (refused (refusal l f c) (place c)) (eq-eqb (refusal l f c) 0 e))) (taken_told l f c lent e)

-- a call that is turned away leaves the words
words_kept : (ws later : List ℕ) (c : Call) → Sound ws → state later ≡ next all_calls (state ws) c → 0 < refusal (limits (limit_in ws)) (family_in ws) c → later ≡ ws
words_kept ws later c ok left away =
    let l = limits (limit_in ws) in
    let f = family_in ws in
    let same : after l f c ≡ f = cond-false (eqb (refusal l f c) 0) (changed f c) f (ne_eqb (refusal l f c) 0 (λ e. omega arith)) in
    ap (λ (m : Memory). m.words) left ∙ ap (λ g. image (limit_in ws) g (rest_in ws)) same ∙ sym ok.0

pub few_refusals : (e : Refusal) → (1 ≤ refusal_number e) × (refusal_number e ≤ 7)
few_refusals (Unreadable p) = (omega arith, omega arith)
few_refusals NotTaken = (omega arith, omega arith)
few_refusals TooManyPersons = (omega arith, omega arith)
few_refusals TooSmall = (omega arith, omega arith)
few_refusals NotThere = (omega arith, omega arith)
few_refusals NotAllowed = (omega arith, omega arith)
few_refusals BeyondLimit = (omega arith, omega arith)

module _ (ws later row lent bytes : List ℕ) (ready : Ready ws (length lent)) where
  ready_again : Sound later → limit_in later ≡ limit_in ws → Ready later (length lent)
  ready_again ok e = (ok, subst (λ n. bytes_asked n ≤ length lent) (sym e) ready.1)

  pub short_answer : (k : ℕ) → Replied all_calls ws later (read row) lent bytes (Ok k) → (k ≤ length lent) × (k ≤ 2147483647)
  short_answer k r =
      let fit = (says_fits all_calls ws row ready.0).room in
      let most = ready.0.1.2 in
      (omega (arith, r.said.2, ready.1), omega (arith, r.said.2))

  pub called_taken : (k : ℕ) (v : ℤ) → Replied all_calls ws later (read row) lent bytes (Ok k) → v ≡ pos k → Called ws later (read row) lent bytes v
  called_taken k v r e =
      let told = says_told ws (read row) lent r.said.0 in
      record {
        left = r.left;
        value = e ∙ ap pos r.said.2 ∙ sym told.0;
        said = r.said.1 ∙ sym told.1;
        kept = words_kept ws later (read row) ready.0 r.left;
        ready = ready_again r.sound r.limit;
      }

  pub called_refused :
      (e : Refusal) (v : ℤ) → Replied all_calls ws later (read row) lent bytes (Err e) → v ≡ signed_refusal (refusal_number e) (refusal_place e) → Called ws later (read row) lent bytes v
  called_refused e v r is =
      record {
        left = r.left;
        value = is ∙ ap signed_answer r.said.0;
        said = r.said.1 ∙ ap (λ a. bytes_with a lent) r.said.0;
        kept = words_kept ws later (read row) ready.0 r.left;
        ready = ready_again r.sound r.limit;
      }
