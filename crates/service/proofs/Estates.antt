-- Estates, way by way. Assumes nothing.
use Rattle.std.proofs.Common.{◌≡◌, ℕ, ◌+◌, ◌*◌, ◌<◌, ◌≤◌, Bool, true, false, cond, eqb, List, length, set, Some, None, Ok, Err, Option, Result, sym, refl, ap, ◌∙◌, subst, ⊎_elim, arith}
use Rattle.std.proofs.lemmas.Bool.{lt-ltb, le-ltb, eqb-true, cond-true, cond-false, cases_Bool}
use Rattle.std.proofs.lemmas.List.{length-set}
use Rattle.law.specs.Family.{Person, Family, person, estate}
use Rattle.law.specs.Calls.{Call, estate_of, Answer, refused, number, shares, refusal, refusal_of, call_number, place, there, changed, dead}
use Rattle.law.specs.Promise.{all_calls}
use Rattle.rows.specs.Written.{written}
use Rattle.wire.specs.Bytes.{answer_bytes}
use Rattle.wire.proofs.Bytes.{length-number, length-shares}
use Rattle.theory.specs.Shares.{shares_of}
use Rattle.theory.specs.Answers.{answer_taken}
use Rattle.theory.specs.Decedent.{with_dead}
use Rattle.theory.proofs.Decedent.{dead_and_back, dead_lives, dead_parents, marked_dead}
use Rattle.children.specs.Links.{link_row}
use Rattle.people.specs.Layout.{person_words, person_row, laid, image, limit_in, family_in, rest_in, Valid, Sound}
use Rattle.people.proofs.Layouts.{length-family}
use Rattle.people.proofs.Valids.{valid_dies, valid_there, valid_ranked, valid_well_formed}
use Rattle.living.specs.Marks.{begun, ended}
use Rattle.living.specs.Places.{Held, ParentsThere}
use Rattle.shares.specs.Parts.{dividable}
use Rattle.succession.specs.Settling.{DeadThere, EstateSettled}
use Rattle.service.specs.Desks.{limits, says, state}
use Rattle.service.specs.Refusals.{outcome}
use Rattle.service.specs.Service.{Served, Replied, Put}
use Rattle.service.specs.declared.refusal.Refusal.{Refusal}
use Rattle.service.specs.declared.refusal.Refusal.TheVariants.{NotThere, BeyondLimit}
use Rattle.service.proofs.Serving.{refusal_served, taken_served}
use Rattle.service.proofs.Births.{death_left, revival_left}

-- somebody dead in a valid family
pub dead_there : (f : Family) (n who : ℕ) → Valid f → length f ≤ n → who < length f → (person f who).lives ≡ false → DeadThere f n who
dead_there f n who ok room h dead' =
    record { formed = valid_well_formed f ok; parents = valid_there f (length f) ok (omega arith); room = room; there = h; dead = dead' }

-- the estate of somebody who was marked dead for it, and is living again
pub settled_again :
    (n : ℕ) (f : Family) (rest : List ℕ) (who : ℕ) (later lent bytes : List ℕ) (r : Option ℕ) (mid : List ℕ) → Valid f →
    EstateSettled n (with_dead f who) rest who mid lent bytes r → later ≡ image n (set (with_dead f who) who (person f who)) rest →
    EstateSettled n f rest who later lent bytes r
settled_again n f rest who later lent bytes r mid ok done back =
    let same = (marked_dead (valid_well_formed f ok) who).same_estate in
    record {
      left = back ∙ ap (λ g. image n g rest) (dead_and_back f who);
      said = subst (λ ps. bytes ≡ cond (dividable ps) (written 0 (answer_bytes (shares (shares_of ps))) lent) lent) same done.said;
      next = subst (λ ps. r ≡ cond (dividable ps) (Some (length (shares_of ps))) None) same done.next;
    }

pub living_settled :
    (n : ℕ) (f : Family) (rest ws m1 m2 m3 m4 m5 lent bytes : List ℕ) (who : ℕ) (q : Person) (r : Option ℕ) → ws ≡ image n f rest → Valid f → length f ≤ n → who < length f → q ≡ person f who →
    q.lives ≡ true → m1 ≡ written (2 + 4 * who) (person_words (dead q)) ws →
    ((n : ℕ) (f : Family) (s : ℕ → Bool) (work rest : List ℕ) → Held m1 n f s work rest → ParentsThere f n →
    m2 ≡ laid n (length f) (person_row f) (link_row f) (ended f who s) work rest) →
    ((n : ℕ) (f : Family) (rest : List ℕ) → m2 ≡ image n f rest → DeadThere f n who → EstateSettled n f rest who m3 lent bytes r) →
    m4 ≡ written (2 + 4 * who) (person_words q) m3 →
    ((n : ℕ) (f : Family) (s : ℕ → Bool) (work rest : List ℕ) → Held m4 n f s work rest → ParentsThere f n →
    m5 ≡ laid n (length f) (person_row f) (link_row f) (begun f who s) work rest) →
    EstateSettled n f rest who m5 lent bytes r
living_settled n f rest ws m1 m2 m3 m4 m5 lent bytes who q r e ok room h is lives w1 ends settles w2 begins =
    let g = with_dead f who in
    let long = length-set f who (dead (person f who)) in
    let ranked = valid_ranked f ok in
    let valid : Valid g = valid_dies f who h ok in
    let marked : m2 ≡ image n g rest = death_left n f rest ws m1 m2 who q e ok room h is w1 ends in
    let done = settles n g rest marked (dead_there g n who valid (omega arith) (omega arith) (dead_lives ranked who)) in
    let again : set g who q ≡ f = ap (λ p. set g who p) is ∙ dead_and_back f who in
    let u = dead_parents ranked who in
    let back : m5 ≡ image n (set g who q) rest =
    revival_left n g rest m3 m4 m5 who q done.left valid (subst Valid (sym again) ok) (omega arith) (omega arith) (ap (λ (p : Person). p.mother) is ∙ sym (u.mother who))
    (ap (λ (p : Person). p.father) is ∙ sym (u.father who)) lives w2 begins in
    settled_again n f rest who m5 lent bytes r m3 ok done (back ∙ ap (λ p. image n (set g who p) rest) is)

-- what turns an estate away, and what is left and said of one that is taken
refusal_estate : (n : ℕ) (f : Family) (a : ℕ) → refusal (limits n) f (estate_of a) ≡ cond (there f a) (cond (dividable (estate f a)) 0 6) 4
unfolding refusal_of call_number
refusal_estate n f a = refl

place_estate : (a : ℕ) → place (estate_of a) ≡ 0
unfolding place
place_estate a = refl

changed_estate : (f : Family) (a : ℕ) → changed f (estate_of a) ≡ f
unfolding changed
changed_estate f a = refl

said_estate : (f : Family) (a : ℕ) → answer_taken f (estate_of a) ≡ shares (shares_of (estate f a))
unfolding answer_taken
said_estate f a = refl

-- a refusal handed on, with nothing written
pub refused_replied : (can : ℕ → Bool) (ws later : List ℕ) (c : Call) (lent : List ℕ) (e : Refusal) → Served can ws later c (outcome (Err e)) → Replied can ws later c lent lent (Err e)
refused_replied can ws later c lent e s = record { left = s.left; said = (s.said, refl); sound = s.sound; limit = s.limit }

-- a number written
said_taken : (b : Bool) (t n m p : ℕ) (a : Answer) → eqb t 0 ≡ b → number n ≡ cond b a (refused m p) → t ≡ 0
said_taken true t n m p a e s = eqb-true t 0 e
said_taken false t n m p a e s = absurd (let z : ◌≡◌ {A = ℕ} 0 1 = cc in omega arith)

pub number_replied :
    (ws later : List ℕ) (c : Call) (reply r : Result ℕ Refusal) (lent bytes : List ℕ) → Served all_calls ws later c (outcome reply) → Put reply lent bytes r → Replied all_calls ws later c lent bytes r
number_replied ws later c (Ok n) r lent bytes s put =
    let t = refusal (limits (limit_in ws)) (family_in ws) c in
    subst (λ z. Replied all_calls ws later c lent bytes z) (sym put.0)
    (record {
      left = s.left;
      said = (
        said_taken (eqb t 0) t n t (place c) (answer_taken (family_in ws) c) refl s.said,
        put.1 ∙ ap (λ a. written 0 (answer_bytes a) lent) s.said,
        sym (length-number n) ∙ ap (λ a. length (answer_bytes a)) s.said,
      );
      sound = s.sound;
      limit = s.limit;
    })
number_replied ws later c (Err e) r lent bytes s put =
    subst (λ z. Replied all_calls ws later c lent bytes z) (sym put.0) (subst (λ b. Replied all_calls ws later c lent b (Err e)) (sym put.1) (refused_replied all_calls ws later c lent e s))

-- estates
pub estate_not_there : (ws lent : List ℕ) (a : ℕ) → Sound ws → length (family_in ws) ≤ a → Replied all_calls ws ws (estate_of a) lent lent (Err NotThere)
estate_not_there ws lent a ok h =
    refused_replied all_calls ws ws (estate_of a) lent NotThere
    (refusal_served all_calls ws (estate_of a) 4 0 ok (refusal_estate (limit_in ws) (family_in ws) a ∙ cond-false _ _ _ (le-ltb a (length (family_in ws)) h)) (omega arith) (place_estate a))

module _ (ws later lent bytes : List ℕ) (a : ℕ) (r : Option ℕ) (ok : Sound ws) (h : a < length (family_in ws))
    (done : EstateSettled (limit_in ws) (family_in ws) (rest_in ws) a later lent bytes r) where
  pub estate_beyond : r ≡ None → Replied all_calls ws later (estate_of a) lent bytes (Err BeyondLimit)
  estate_beyond none =
      let f = family_in ws in
      let over : dividable (estate f a) ≡ false =
      ⊎_elim (λ (t : dividable (estate f a) ≡ true). absurd (let s : Some (length (shares_of (estate f a))) ≡ None = sym (cond-true _ _ _ t) ∙ sym done.next ∙ none in
      let z : ◌≡◌ {A = ℕ} 0 1 = cc in omega arith)) (λ e. e) (cases_Bool (dividable (estate f a))) in
      let same : later ≡ ws = done.left ∙ sym ok.0 in
      let wrote : bytes ≡ lent = done.said ∙ cond-false _ _ _ over in
      let s = refusal_served all_calls ws (estate_of a) 6 0 ok (refusal_estate (limit_in ws) f a ∙ cond-true _ _ _ (lt-ltb a (length f) h) ∙ cond-false _ _ _ over) (omega arith) (place_estate a) in
      subst (λ m. Replied all_calls ws m (estate_of a) lent bytes (Err BeyondLimit)) (sym same)
      (subst (λ b. Replied all_calls ws ws (estate_of a) lent b (Err BeyondLimit)) (sym wrote) (refused_replied all_calls ws ws (estate_of a) lent BeyondLimit s))

  pub estate_within : (k : ℕ) → r ≡ Some k → Replied all_calls ws later (estate_of a) lent bytes (Ok (5 + 20 * k))
  estate_within k some =
      let f = family_in ws in
      let ss = shares_of (estate f a) in
      let fits : dividable (estate f a) ≡ true =
      ⊎_elim (λ e. e) (λ (t : dividable (estate f a) ≡ false). absurd (let s : None ≡ Some k = sym (cond-false _ _ _ t) ∙ sym done.next ∙ some in
      let z : ◌≡◌ {A = ℕ} 0 1 = cc in omega arith)) (cases_Bool (dividable (estate f a))) in
      let many : k ≡ length ss = let s : Some k ≡ Some (length ss) = sym some ∙ done.next ∙ cond-true _ _ _ fits in cc in
      let taken : refusal (limits (limit_in ws)) f (estate_of a) ≡ 0 = refusal_estate (limit_in ws) f a ∙ cond-true _ _ _ (lt-ltb a (length f) h) ∙ cond-true _ _ _ fits in
      let made = changed_estate f a in
      let l = length-family ws in
      let s = taken_served all_calls ws later (estate_of a) ok taken (rw made (omega arith)) (rw made ok.2) (rw made done.left) in
      let is : shares ss ≡ says all_calls (state ws) (estate_of a) = sym (said_estate f a) ∙ s.said in
      record {
        left = s.left;
        said = (
          taken,
          done.said ∙ cond-true _ _ _ fits ∙ ap (λ z. written 0 (answer_bytes z) lent) is,
          ap (λ z. 5 + 20 * z) many ∙ sym (length-shares ss) ∙ ap (λ z. length (answer_bytes z)) is,
        );
        sound = s.sound;
        limit = s.limit;
      }
