-- The calls that a stage takes, by the rules for all calls, and the calls that it turns away. Assumes nothing.
use Rattle.std.proofs.Common.{◌≡◌, ℕ, Bool, true, false, cond, ◌||◌, eqb, List, length, Ok, Err, Result, sym, refl, ap, ◌∙◌, arith}
use Rattle.std.proofs.lemmas.Bool.{or_right, cond-true, cond-false}
use Rattle.law.specs.Family.{Family}
use Rattle.law.specs.Calls.{Call, born, wed, parted, dies, estate_of, unreadable, refused, Limits, refusal, refusal_of, call_number, place, after, changed}
use Rattle.law.specs.Promise.{all_calls}
use Rattle.rows.specs.Written.{written}
use Rattle.theory.specs.Answers.{answer_taken, answer_to}
use Rattle.theory.proofs.Refusals.{by_stage}
use Rattle.wire.specs.Bytes.{call_of, answer_bytes}
use Rattle.wire.specs.declared.Request.{Request}
use Rattle.wire.specs.declared.Request.TheVariants.{Born, Wed, Parted, Dies, EstateOf}
use Rattle.people.specs.Layout.{image, limit_in, family_in, rest_in, Sound}
use Rattle.service.specs.Desks.{limits_of, limits, state, says}
use Rattle.service.specs.Service.{Replied, Said}
use Rattle.service.specs.declared.refusal.Refusal.{Refusal}
use Rattle.service.specs.declared.refusal.Refusal.TheVariants.{NotTaken}
use Rattle.service.proofs.Serving.{refusal_served}
use Rattle.service.proofs.Estates.{refused_replied}

-- the rules do not depend on the stage
same_rules : (can : ℕ → Bool) (n : ℕ) (f : Family) (c : Call) → refusal_of (limits_of can n) f c ≡ refusal_of (limits n) f c
unfolding refusal_of
same_rules can n f (born m d) = refl
same_rules can n f (wed a b) = refl
same_rules can n f (parted a) = refl
same_rules can n f (dies a) = refl
same_rules can n f (estate_of a) = refl
same_rules can n f (unreadable k) = refl

-- a call that a stage takes is turned away by the same refusal where all calls are taken, and leaves and says the same
module _ (can : ℕ → Bool) (n : ℕ) (f : Family) (c : Call) (of : (eqb (call_number c) 255 || can (call_number c)) ≡ true) where
  pub same_refusal : refusal (limits_of can n) f c ≡ refusal (limits n) f c
  same_refusal = cond-true _ _ _ of ∙ same_rules can n f c ∙ sym (by_stage (limits n) f c refl)

  pub same_after : after (limits_of can n) f c ≡ after (limits n) f c
  same_after = ap (λ t. cond (eqb t 0) (changed f c) f) same_refusal

  pub same_answer : answer_to (limits_of can n) f c ≡ answer_to (limits n) f c
  same_answer = ap (λ t. cond (eqb t 0) (answer_taken f c) (refused t (place c))) same_refusal

module _ (can : ℕ → Bool) (ws later lent bytes : List ℕ) (c : Call) (takes : can (call_number c) ≡ true) where
  of : (eqb (call_number c) 255 || can (call_number c)) ≡ true
  of = or_right (eqb (call_number c) 255) (can (call_number c)) takes

  same_said : says all_calls (state ws) c ≡ says can (state ws) c
  same_said = sym (same_answer can (limit_in ws) (family_in ws) c of)

  stage_said : (r : Result ℕ Refusal) → Said all_calls ws c lent bytes r → Said can ws c lent bytes r
  stage_said (Ok k) s = (
    same_refusal can (limit_in ws) (family_in ws) c of ∙ s.0,
    s.1 ∙ ap (λ a. written 0 (answer_bytes a) lent) same_said,
    s.2 ∙ ap (λ a. length (answer_bytes a)) same_said,
  )
  stage_said (Err e) s = (s.0 ∙ same_said, s.1)

  pub stage_replied : (r : Result ℕ Refusal) → Replied all_calls ws later c lent bytes r → Replied can ws later c lent bytes r
  stage_replied r s =
      record {
        left = s.left ∙ ap (λ g. state (image (limit_in ws) g (rest_in ws))) (sym (same_after can (limit_in ws) (family_in ws) c of));
        said = stage_said r s.said;
        sound = s.sound;
        limit = s.limit;
      }

-- a call that a stage does not take
turned_away : (l : Limits) (f : Family) (q : Request) → l.calls_can (call_number (call_of q)) ≡ false → refusal l f (call_of q) ≡ 2
unfolding call_number
turned_away l f (Born m d) e = cond-false _ _ _ e
turned_away l f (Wed a b) e = cond-false _ _ _ e
turned_away l f (Parted a) e = cond-false _ _ _ e
turned_away l f (Dies a) e = cond-false _ _ _ e
turned_away l f (EstateOf a) e = cond-false _ _ _ e

no_place : (q : Request) → place (call_of q) ≡ 0
unfolding place
no_place (Born m d) = refl
no_place (Wed a b) = refl
no_place (Parted a) = refl
no_place (Dies a) = refl
no_place (EstateOf a) = refl

pub not_taken : (can : ℕ → Bool) (ws lent : List ℕ) (q : Request) → Sound ws → can (call_number (call_of q)) ≡ false → Replied can ws ws (call_of q) lent lent (Err NotTaken)
not_taken can ws lent q ok e =
    refused_replied can ws ws (call_of q) lent NotTaken
    (refusal_served can ws (call_of q) 2 0 ok (turned_away (limits_of can (limit_in ws)) (family_in ws) q e) (omega arith) (no_place q))
