-- The promises of a register at any stage: every answer is right, and a refusal changes nothing. Assumes nothing.
use Rattle.std.proofs.Common.{◌≡◌, ℕ, suc, ◌-◌, ◌<◌, ◌≤◌, Bool, true, false, cond, not, ◌&&◌, eqb, List, [], ◌∷◌, ◌++◌, length, set, sym, refl, ap, ◌∙◌, subst, arith}
use Rattle.std.proofs.lemmas.Bool.{ltb-true, eqb-true, eq-eqb, ne_eqb, or_right, cond-true, cond-false, cond_both}
use Rattle.std.proofs.lemmas.List.{length_push, length-set}
use Rattle.std.specs.List.{AllByRecursion}
use Rattle.law.specs.Family.{Person, Family, person, has_living_spouse}
use Rattle.law.specs.Calls.{Call, born, wed, parted, dies, estate_of, unreadable, refused, Limits, refusal, refusal_of, call_number, place, after, changed, newborn, dead, with_spouse, right}
use Rattle.law.specs.Promise.{Memory, all_right, Right, ran, left_by, RefusalKeeps, without_marriages, all_calls}
use Rattle.people.specs.Layout.{image, limit_in, family_in, rest_in, Sound}
use Rattle.people.proofs.Layouts.{limit_image, family_image, rest_image, length-family}
use Rattle.theory.specs.Answers.{answer_taken, answer_to}
use Rattle.theory.proofs.Lists.{all_any}
use Rattle.theory.proofs.Families.{person_push, same_set, parents_two}
use Rattle.theory.proofs.Refusals.{by_rules, born_taken}
use Rattle.theory.proofs.RightAnswers.{answer_right}
use Rattle.service.specs.Desks.{limits_of, limits, state, next, says, desk}
use Rattle.service.proofs.Stages.{same_refusal, same_after, same_answer}
use Rattle.register.specs.Stages.{OfStage, RightWithin, RefusalKeepsWithin, AnswersKept, RelativesAlone}

-- no call leaves more persons than the limit
within : (l : Limits) (f : Family) (c : Call) → length f ≤ l.persons → length (after l f c) ≤ l.persons
unfolding changed
within l f (born m d) h =
    cond_both (eqb (refusal l f (born m d)) 0) (f ++ (newborn m d ∷ [])) f (λ g. length g ≤ l.persons)
    (λ e. omega (arith, length_push f (newborn m d), (born_taken l f m d (by_rules l f (born m d) (eqb-true (refusal l f (born m d)) 0 e))).2)) (λ _. h)
within l f (wed a b) h =
    cond_both (eqb (refusal l f (wed a b)) 0) (changed f (wed a b)) f (λ g. length g ≤ l.persons)
    (λ _. omega (arith, (parents_two f a b (with_spouse (person f a) (suc b)) (with_spouse (person f b) (suc a)) refl refl refl refl).size)) (λ _. h)
within l f (parted a) h =
    cond_both (eqb (refusal l f (parted a)) 0) (changed f (parted a)) f (λ g. length g ≤ l.persons)
    (λ _. omega (arith, (parents_two f a ((person f a).spouse - 1) (with_spouse (person f a) 0) (with_spouse (person f ((person f a).spouse - 1)) 0) refl refl refl refl).size)) (λ _. h)
within l f (dies a) h =
    cond_both (eqb (refusal l f (dies a)) 0) (set f a (dead (person f a))) f (λ g. length g ≤ l.persons) (λ _. omega (arith, length-set f a (dead (person f a)))) (λ _. h)
within l f (estate_of a) h = cond_both (eqb (refusal l f (estate_of a)) 0) f f (λ g. length g ≤ l.persons) (λ _. h) (λ _. h)
within l f (unreadable k) h = cond_both (eqb (refusal l f (unreadable k)) 0) f f (λ g. length g ≤ l.persons) (λ _. h) (λ _. h)

pub same_family : (can : ℕ → Bool) (n : ℕ) (f : Family) (cs : List Call) → AllByRecursion (OfStage can) cs → ran (limits_of can n) f cs ≡ ran (limits n) f cs
unfolding ran
same_family can n f [] of = refl
same_family can n f (c ∷ cs) of =
    same_family can n (after (limits_of can n) f c) cs of.1 ∙ ap (λ g. ran (limits n) g cs) (same_after can n f c of.0)

-- From the memory of a family on, by a desk for the calls of one stage and the rules of another, which turn away alike each call of some lists: all calls, if the stages are one.
module _
    (run can : ℕ → Bool) (Of : Call → Type 0) (same : (n : ℕ) (f : Family) (c : Call) → Of c → refusal (limits_of can n) f c ≡ refusal (limits_of run n) f c)
    (rest : List ℕ) (n : ℕ)
  where
    limit_at : (f : Family) → limit_in (image n f rest) ≡ n
    limit_at f = limit_image n f rest

    said_at : (f : Family) (c : Call) → length f ≤ n → Of c → says run (state (image n f rest)) c ≡ answer_to (limits_of can n) f c
    said_at f c h of =
        (λ i. answer_to (limits_of run (limit_at f i)) (family_image n f rest h i) c) ∙ ap (λ t. cond (eqb t 0) (answer_taken f c) (refused t (place c))) (sym (same n f c of))

    next_at : (f : Family) (c : Call) → length f ≤ n → Of c → next run (state (image n f rest)) c ≡ state (image n (after (limits_of can n) f c) rest)
    next_at f c h of =
        (λ i. state (image (limit_at f i) (after (limits_of run (limit_at f i)) (family_image n f rest h i) c) (rest_image n f rest i)))
        ∙ ap (λ t. state (image n (cond (eqb t 0) (changed f c) f) rest)) (sym (same n f c of))

    pub all_answered : (f : Family) (cs : List Call) → length f ≤ n → AllByRecursion Of cs → all_right (desk run rest) (limits_of can n) (state (image n f rest)) f cs
    unfolding all_right
    all_answered f [] h of = 0
    all_answered f (c ∷ cs) h of = (
      subst (λ a. right (limits_of can n) f c a) (sym (said_at f c h of.0)) (answer_right (limits_of can n) f c),
      subst (λ m. all_right (desk run rest) (limits_of can n) m (after (limits_of can n) f c) cs) (sym (next_at f c h of.0))
          (all_answered (after (limits_of can n) f c) cs (within (limits_of can n) f c h) of.1),
    )

    left_at :
        (f : Family) (cs : List Call) → length f ≤ n → AllByRecursion Of cs →
        (left_by (desk run rest) (state (image n f rest)) cs ≡ state (image n (ran (limits_of can n) f cs) rest)) × (length (ran (limits_of can n) f cs) ≤ n)
    unfolding ran left_by
    left_at f [] h of = (refl, h)
    left_at f (c ∷ cs) h of =
        let more = left_at (after (limits_of can n) f c) cs (within (limits_of can n) f c h) of.1 in
        (ap (λ m. left_by (desk run rest) m cs) (next_at f c h of.0) ∙ more.0, more.1)

    pub kept_at :
        (cs : List Call) (c : Call) → AllByRecursion Of cs → Of c → 0 < refusal (limits_of can n) (ran (limits_of can n) [] cs) c →
        next run (left_by (desk run rest) (state (image n [] rest)) cs) c ≡ left_by (desk run rest) (state (image n [] rest)) cs
    kept_at cs c of taken pos =
        let f = ran (limits_of can n) [] cs in
        let m = left_at [] cs (omega arith) of in
        let still : after (limits_of can n) f c ≡ f = cond-false _ _ _ (ne_eqb (refusal (limits_of can n) f c) 0 (omega arith)) in
        ap (λ u. next run u c) m.0 ∙ next_at f c m.1 taken ∙ ap (λ g. state (image n g rest)) still ∙ sym m.0

same_limits : (can : ℕ → Bool) (l : Limits) → l.calls_can ≡ can → limits_of can l.persons ≡ l
same_limits can l e = λ i. record { calls_can = sym e i; persons = l.persons }

-- the desk for all calls, by the rules of a stage, for its calls
pub right_within : (can : ℕ → Bool) (rest : List ℕ) → RightWithin can (desk all_calls rest)
unfolding RightWithin
right_within can rest l cs most e of =
    subst (λ k. all_right (desk all_calls rest) k ((desk all_calls rest).opened k) [] cs) (same_limits can l e)
    (all_answered all_calls can (OfStage can) (same_refusal can) rest l.persons [] cs (omega arith) of)

pub keeps_within : (can : ℕ → Bool) (rest : List ℕ) → RefusalKeepsWithin can (desk all_calls rest)
unfolding RefusalKeepsWithin
keeps_within can rest l cs c most e of taken pos =
    subst (λ k. 0 < refusal k (ran k [] cs) c → next all_calls (left_by (desk all_calls rest) ((desk all_calls rest).opened k) cs) c ≡ left_by (desk all_calls rest) ((desk all_calls rest).opened k) cs)
    (same_limits can l e) (kept_at all_calls can (OfStage can) (same_refusal can) rest l.persons cs c of taken) pos

-- the desk of a stage by its own rules, for every call
abbrev Any : Call → Type 0
Any c = ℕ

any_calls : (cs : List Call) → AllByRecursion Any cs
any_calls cs = all_any Any (λ _. 0) cs

own_answered : (can : ℕ → Bool) (rest : List ℕ) (n : ℕ) (f : Family) (cs : List Call) → length f ≤ n → all_right (desk can rest) (limits_of can n) (state (image n f rest)) f cs
own_answered can rest n f cs h = all_answered can can Any (λ _ _ _ _. refl) rest n f cs h (any_calls cs)

pub own_said : (can : ℕ → Bool) (rest : List ℕ) (n : ℕ) (f : Family) (c : Call) → length f ≤ n → says can (state (image n f rest)) c ≡ answer_to (limits_of can n) f c
own_said can rest n f c h = said_at can can Any (λ _ _ _ _. refl) rest n f c h 0

pub own_left :
    (can : ℕ → Bool) (rest : List ℕ) (n : ℕ) (f : Family) (cs : List Call) → length f ≤ n →
    (left_by (desk can rest) (state (image n f rest)) cs ≡ state (image n (ran (limits_of can n) f cs) rest)) × (length (ran (limits_of can n) f cs) ≤ n)
own_left can rest n f cs h = left_at can can Any (λ _ _ _ _. refl) rest n f cs h (any_calls cs)

pub answers_right : (can : ℕ → Bool) (rest : List ℕ) → Right can (desk can rest)
unfolding Right
answers_right can rest l cs most e =
    subst (λ k. all_right (desk can rest) k ((desk can rest).opened k) [] cs) (same_limits can l e) (own_answered can rest l.persons [] cs (omega arith))

pub refusals_keep : (can : ℕ → Bool) (rest : List ℕ) → RefusalKeeps can (desk can rest)
unfolding RefusalKeeps
refusals_keep can rest l cs c most e pos =
    subst (λ k. 0 < refusal k (ran k [] cs) c → next can (left_by (desk can rest) ((desk can rest).opened k) cs) c ≡ left_by (desk can rest) ((desk can rest).opened k) cs)
    (same_limits can l e) (kept_at can can Any (λ _ _ _ _. refl) rest l.persons cs c (any_calls cs) 0) pos

-- families without weddings
pub answers_kept : (can : ℕ → Bool) → AnswersKept can
unfolding AnswersKept
answers_kept can n cs c of taken =
    let same = same_family can n [] cs of in
    (same, ap (λ f. answer_to (limits_of can n) f c) same ∙ same_answer can n (ran (limits n) [] cs) c taken)

abbrev Unmarried : Family → Type 0
Unmarried f = (p : ℕ) → (person f p).spouse ≡ 0

unmarried_after : (n : ℕ) (f : Family) (c : Call) → Unmarried f → Unmarried (after (limits_of without_marriages n) f c)
unfolding changed refusal_of call_number
unmarried_after n f (born m d) u p =
    cond_both (eqb (refusal (limits_of without_marriages n) f (born m d)) 0) (f ++ (newborn m d ∷ [])) f (λ g. (person g p).spouse ≡ 0)
    (λ _. person_push f (newborn m d) p (λ (z : Person). z.spouse ≡ 0) (λ _. u p) (λ _. refl) (λ _. refl)) (λ _. u p)
unmarried_after n f (wed a b) u p = u p
unmarried_after n f (parted a) u p = u p
unmarried_after n f (dies a) u p =
    cond_both (eqb (refusal (limits_of without_marriages n) f (dies a)) 0) (set f a (dead (person f a))) f (λ g. (person g p).spouse ≡ 0)
    (λ _. same_set (λ (z : Person). z.spouse) f a (dead (person f a)) p refl ∙ u p) (λ _. u p)
unmarried_after n f (estate_of a) u p =
    cond_both (eqb (refusal (limits_of without_marriages n) f (estate_of a)) 0) f f (λ g. (person g p).spouse ≡ 0) (λ _. u p) (λ _. u p)
unmarried_after n f (unreadable k) u p = u p

unmarried_ran : (n : ℕ) (f : Family) (cs : List Call) → Unmarried f → Unmarried (ran (limits_of without_marriages n) f cs)
unfolding ran
unmarried_ran n f [] u = u
unmarried_ran n f (c ∷ cs) u = unmarried_ran n (after (limits_of without_marriages n) f c) cs (unmarried_after n f c u)

pub relatives_alone : RelativesAlone
unfolding RelativesAlone
relatives_alone n f d r =
    let none : (person f d).spouse ≡ 0 = subst Unmarried r.1 (unmarried_ran n [] r.0 (λ p. refl)) d in
    let alone : has_living_spouse f d ≡ false = ap (λ t. not t && (person f ((person f d).spouse - 1)).lives) (eq-eqb (person f d).spouse 0 none) in
    cond-false _ _ _ alone

-- sound words are the desk's memory, whichever words it was opened before
same_desk : (can : ℕ → Bool) (rest other : List ℕ) (l : Limits) (m : Memory) (f : Family) (cs : List Call) → all_right (desk can other) l m f cs → all_right (desk can rest) l m f cs
unfolding all_right
same_desk can rest other l m f [] r = r
same_desk can rest other l m f (c ∷ cs) r = (r.0, same_desk can rest other l (next can m c) (after l f c) cs r.1)

pub resumed_right : (can : ℕ → Bool) (ws rest : List ℕ) (cs : List Call) → Sound ws → all_right (desk can rest) (limits_of can (limit_in ws)) (state ws) (family_in ws) cs
resumed_right can ws rest cs ok =
    let l = length-family ws in
    same_desk can rest (rest_in ws) (limits_of can (limit_in ws)) (state ws) (family_in ws) cs
    (subst (λ m. all_right (desk can (rest_in ws)) (limits_of can (limit_in ws)) m (family_in ws) cs) (ap state (sym ok.0)) (own_answered can (rest_in ws) (limit_in ws) (family_in ws) cs (omega arith)))
