-- Weddings and partings, way by way. Assumes nothing.
use Rattle.std.proofs.Common.{◌≡◌, ℕ, suc, ◌+◌, ◌-◌, ◌*◌, ◌<◌, ◌≤◌, true, false, cond, ◌&&◌, ◌≢◌, ◌⊎◌, List, length, set, replicate, sym, refl, ap, ◌∙◌, subst, ⊎_elim, add-one, arith}
use Rattle.std.proofs.lemmas.Bool.{lt-ltb, le-ltb, eq-eqb, ne_eqb, cond-true, cond-false}
use Rattle.std.proofs.lemmas.List.{length-set, get_or-set_other}
use Rattle.law.specs.Family.{Person, Family, person, nobody}
use Rattle.law.specs.Calls.{wed, parted, refused, number, refusal, refusal_of, call_number, place, there, unmarried, changed, with_spouse}
use Rattle.law.specs.Promise.{all_calls}
use Rattle.rows.specs.Written.{written}
use Rattle.theory.specs.Living.{alive}
use Rattle.theory.specs.Answers.{answer_taken}
use Rattle.theory.proofs.Families.{same_two, parents_two}
use Rattle.theory.proofs.Refusals.{by_rules, wed_taken}
use Rattle.children.specs.Links.{link_row}
use Rattle.people.specs.Layout.{work_words, person_words, person_row, image, limit_in, family_in, rest_in, Valid, Sound}
use Rattle.people.proofs.Layouts.{length-family, laid_same, working_set}
use Rattle.people.proofs.Valids.{valid_ranked, valid_well_formed, valid_wed, valid_parted}
use Rattle.living.proofs.Changes.{same_lines}
use Rattle.service.specs.Desks.{limits}
use Rattle.service.specs.Marriages.{may_wed}
use Rattle.service.specs.Service.{Served}
use Rattle.service.proofs.Serving.{refusal_served, taken_served}

-- what turns a wedding or a parting away, and what is left and said of one that is taken
refusal_wed :
    (n : ℕ) (f : Family) (a b : ℕ) → refusal (limits n) f (wed a b) ≡ cond (there f a && there f b) (cond (may_wed a (person f a) b (person f b)) 0 5) 4
unfolding refusal_of call_number
refusal_wed n f a b = refl

refusal_parted : (n : ℕ) (f : Family) (a : ℕ) → refusal (limits n) f (parted a) ≡ cond (there f a) (cond (unmarried f a) 5 0) 4
unfolding refusal_of call_number
refusal_parted n f a = refl

place_wed : (a b : ℕ) → place (wed a b) ≡ 0
unfolding place
place_wed a b = refl

place_parted : (a : ℕ) → place (parted a) ≡ 0
unfolding place
place_parted a = refl

changed_wed : (f : Family) (a b : ℕ) → changed f (wed a b) ≡ set (set f a (with_spouse (person f a) (suc b))) b (with_spouse (person f b) (suc a))
unfolding changed
changed_wed f a b = refl

changed_parted :
    (f : Family) (a : ℕ) → changed f (parted a) ≡ set (set f a (with_spouse (person f a) 0)) ((person f a).spouse - 1) (with_spouse (person f ((person f a).spouse - 1)) 0)
unfolding changed
changed_parted f a = refl

said_wed : (f : Family) (a b : ℕ) → answer_taken f (wed a b) ≡ number a
unfolding answer_taken
said_wed f a b = refl

said_parted : (f : Family) (a : ℕ) → answer_taken f (parted a) ≡ number ((person f a).spouse - 1)
unfolding answer_taken
said_parted f a = refl

-- two persons written over who have the parents and the life that they had: the same lines live
couple_left :
    (n : ℕ) (f : Family) (rest : List ℕ) (a b : ℕ) (x y : Person) → Valid f → length f ≤ n → a < length f → b < length f → a ≢ b →
    x.mother ≡ (person f a).mother → x.father ≡ (person f a).father → x.lives ≡ (person f a).lives →
    y.mother ≡ (person f b).mother → y.father ≡ (person f b).father → y.lives ≡ (person f b).lives →
    written (2 + 4 * b) (person_words y) (written (2 + 4 * a) (person_words x) (image n f rest)) ≡ image n (set (set f a x) b y) rest
couple_left n f rest a b x y ok room la lb ab mx dx vx my dy vy =
    let work = replicate (work_words n) 0 in
    let h = set f a x in
    let g = set h b y in
    let long = length-set f a x in
    let same : person h b ≡ person f b = get_or-set_other f a b x nobody (λ e. ab (sym e)) in
    ap (written (2 + 4 * b) (person_words y)) (working_set n f (alive f) work rest a x room la mx dx)
    ∙ working_set n h (alive f) work rest b y (omega arith) (omega arith) (my ∙ ap (λ (q : Person). q.mother) (sym same)) (dy ∙ ap (λ (q : Person). q.father) (sym same))
    ∙ laid_same n (length g) (person_row g) (link_row g) (alive f) work rest (alive g)
    (λ q. sym (same_lines (valid_ranked f ok) (parents_two f a b x y mx dx my dy) (λ p. same_two (λ (z : Person). z.lives) f a b x y p vx vy) q))

-- weddings
pub wed_first_missing : (ws : List ℕ) (a b : ℕ) → Sound ws → length (family_in ws) ≤ a → Served all_calls ws ws (wed a b) (refused 4 0)
wed_first_missing ws a b ok h =
    let f = family_in ws in
    let no_one : (there f a && there f b) ≡ false = ap (λ t. t && there f b) (le-ltb a (length f) h) in
    refusal_served all_calls ws (wed a b) 4 0 ok (refusal_wed (limit_in ws) f a b ∙ cond-false _ _ _ no_one) (omega arith) (place_wed a b)

pub wed_second_missing : (ws : List ℕ) (a b : ℕ) → Sound ws → a < length (family_in ws) → length (family_in ws) ≤ b → Served all_calls ws ws (wed a b) (refused 4 0)
wed_second_missing ws a b ok h l =
    let f = family_in ws in
    let no_one : (there f a && there f b) ≡ false = λ i. lt-ltb a (length f) h i && le-ltb b (length f) l i in
    refusal_served all_calls ws (wed a b) 4 0 ok (refusal_wed (limit_in ws) f a b ∙ cond-false _ _ _ no_one) (omega arith) (place_wed a b)

both_there : (f : Family) (a b : ℕ) → a < length f → b < length f → (there f a && there f b) ≡ true
both_there f a b la lb = λ i. lt-ltb a (length f) la i && lt-ltb b (length f) lb i

pub wed_not_allowed :
    (ws : List ℕ) (a b : ℕ) (p q : Person) → Sound ws → a < length (family_in ws) → b < length (family_in ws) → p ≡ person (family_in ws) a → q ≡ person (family_in ws) b →
    may_wed a p b q ≡ false → Served all_calls ws ws (wed a b) (refused 5 0)
wed_not_allowed ws a b p q ok la lb is other e =
    let f = family_in ws in
    refusal_served all_calls ws (wed a b) 5 0 ok
    (refusal_wed (limit_in ws) f a b ∙ cond-true _ _ _ (both_there f a b la lb) ∙ cond-false _ _ _ ((λ i. may_wed a (sym is i) b (sym other i)) ∙ e)) (omega arith) (place_wed a b)

pub wed_left :
    (ws mid later : List ℕ) (a b : ℕ) (p q x y : Person) → Sound ws → a < length (family_in ws) → b < length (family_in ws) → p ≡ person (family_in ws) a → q ≡ person (family_in ws) b →
    may_wed a p b q ≡ true → x ≡ with_spouse p (b + 1) → y ≡ with_spouse q (a + 1) → mid ≡ written (2 + 4 * a) (person_words x) ws → later ≡ written (2 + 4 * b) (person_words y) mid →
    Served all_calls ws later (wed a b) (number a)
wed_left ws mid later a b p q x y ok la lb is other e newx newy w1 w2 =
    let n = limit_in ws in
    let f = family_in ws in
    let rest = rest_in ws in
    let l = length-family ws in
    let x' = with_spouse (person f a) (suc b) in
    let y' = with_spouse (person f b) (suc a) in
    let g = set (set f a x') b y' in
    let long : length g ≡ length f = length-set (set f a x') b y' ∙ length-set f a x' in
    let taken : refusal (limits n) f (wed a b) ≡ 0 =
    refusal_wed n f a b ∙ cond-true _ _ _ (both_there f a b la lb) ∙ cond-true _ _ _ ((λ i. may_wed a (sym is i) b (sym other i)) ∙ e) in
    let t = wed_taken (limits n) f a b (by_rules (limits n) f (wed a b) taken) in
    let valid : Valid g = valid_wed f a b la lb t.2 t.3 t.4 ok.2 in
    let ex : x ≡ x' = newx ∙ (λ i. with_spouse (is i) (add-one b i)) in
    let ey : y ≡ y' = newy ∙ (λ i. with_spouse (other i) (add-one a i)) in
    let wrote : later ≡ image n g rest =
    w2 ∙ ap (written (2 + 4 * b) (person_words y)) w1 ∙ (λ i. written (2 + 4 * b) (person_words (ey i)) (written (2 + 4 * a) (person_words (ex i)) (ok.0 i)))
    ∙ couple_left n f rest a b x' y' ok.2 (omega arith) la lb t.2 refl refl refl refl refl refl in
    let made = changed_wed f a b in
    subst (λ z. Served all_calls ws later (wed a b) z) (said_wed f a b)
    (taken_served all_calls ws later (wed a b) ok taken (rw made (omega arith)) (rw made valid) (rw made wrote))

-- partings
pub parted_not_there : (ws : List ℕ) (a : ℕ) → Sound ws → length (family_in ws) ≤ a → Served all_calls ws ws (parted a) (refused 4 0)
parted_not_there ws a ok h =
    refusal_served all_calls ws (parted a) 4 0 ok (refusal_parted (limit_in ws) (family_in ws) a ∙ cond-false _ _ _ (le-ltb a (length (family_in ws)) h)) (omega arith) (place_parted a)

-- a spouse is there
spouse_there : (f : Family) (a : ℕ) → Valid f → (person f a).spouse ≢ 0 → ((person f a).spouse - 1 < length f) × (a ≢ (person f a).spouse - 1)
spouse_there f a ok ne = let s = (valid_well_formed f ok).spouses a ((person f a).spouse - 1) (omega arith) in (s.0, s.2)

pub parted_not_allowed :
    (ws : List ℕ) (a : ℕ) (q : Person) → Sound ws → a < length (family_in ws) → q ≡ person (family_in ws) a → (q.spouse ≡ 0) ⊎ (limit_in ws < q.spouse) → Served all_calls ws ws (parted a) (refused 5 0)
parted_not_allowed ws a q ok h is none =
    let f = family_in ws in
    let l = length-family ws in
    let same : q.spouse ≡ (person f a).spouse = ap (λ (p : Person). p.spouse) is in
    let alone : (person f a).spouse ≡ 0 =
    ⊎_elim (λ (e : q.spouse ≡ 0). sym same ∙ e)
    (λ (e : limit_in ws < q.spouse). absurd (let s = spouse_there f a ok.2 (λ z. absurd (omega arith)) in omega arith)) none in
    refusal_served all_calls ws (parted a) 5 0 ok
    (refusal_parted (limit_in ws) f a ∙ cond-true _ _ _ (lt-ltb a (length f) h) ∙ cond-true _ _ _ (eq-eqb (person f a).spouse 0 alone)) (omega arith) (place_parted a)

pub parted_left :
    (ws mid later : List ℕ) (a b : ℕ) (p q : Person) → Sound ws → a < length (family_in ws) → p ≡ person (family_in ws) a → p.spouse ≡ suc b →
    (b < limit_in ws → q ≡ person (family_in ws) b) → mid ≡ written (2 + 4 * a) (person_words (with_spouse p 0)) ws → later ≡ written (2 + 4 * b) (person_words (with_spouse q 0)) mid →
    Served all_calls ws later (parted a) (number b)
parted_left ws mid later a b p q ok la is married read w1 w2 =
    let n = limit_in ws in
    let f = family_in ws in
    let rest = rest_in ws in
    let l = length-family ws in
    let s : (person f a).spouse ≡ suc b = ap (λ (z : Person). z.spouse) (sym is) ∙ married in
    let some : (person f a).spouse ≢ 0 = λ z. absurd (omega arith) in
    let at : (person f a).spouse - 1 ≡ b = omega arith in
    let b' = (person f a).spouse - 1 in
    let t = spouse_there f a ok.2 some in
    let x = with_spouse (person f a) 0 in
    let y = with_spouse (person f b') 0 in
    let g = set (set f a x) b' y in
    let long : length g ≡ length f = length-set (set f a x) b' y ∙ length-set f a x in
    let taken : refusal (limits n) f (parted a) ≡ 0 =
    refusal_parted n f a ∙ cond-true _ _ _ (lt-ltb a (length f) la) ∙ cond-false _ _ _ (ne_eqb (person f a).spouse 0 some) in
    let valid : Valid g = valid_parted f a la some ok.2 in
    let other : q ≡ person f b' = read (omega arith) ∙ ap (λ i. person f i) (sym at) in
    let wrote : later ≡ image n g rest =
    w2 ∙ ap (written (2 + 4 * b) (person_words (with_spouse q 0))) w1
    ∙ (λ i. written (2 + 4 * sym at i) (person_words (with_spouse (other i) 0)) (written (2 + 4 * a) (person_words (with_spouse (is i) 0)) (ok.0 i)))
    ∙ couple_left n f rest a b' x y ok.2 (omega arith) la t.0 t.1 refl refl refl refl refl refl in
    let made = changed_parted f a in
    subst (λ z. Served all_calls ws later (parted a) z) (said_parted f a ∙ ap number at)
    (taken_served all_calls ws later (parted a) ok taken (rw made (omega arith)) (rw made valid) (rw made wrote))
