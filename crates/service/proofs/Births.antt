-- Births, deaths, bytes that are no call, and opening, way by way. Assumes nothing.
use Rattle.std.proofs.Common.{◌≡◌, ℕ, ◌+◌, ◌*◌, ◌<◌, ◌≤◌, Bool, true, false, cond, ltb, List, [], ◌∷◌, ◌++◌, length, drop, set, replicate, Ok, sym, refl, ap, ◌∙◌, subst, arith}
use Rattle.std.proofs.lemmas.Bool.{ltb-true, lt-ltb, le-ltb, cond-true, cond-false, or_from}
use Rattle.std.proofs.lemmas.List.{length_push, length-set}
use Rattle.law.specs.Family.{Person, Family, person}
use Rattle.law.specs.Calls.{Call, born, dies, unreadable, refused, number, refusal, refusal_of, call_number, place, changed, newborn, dead}
use Rattle.law.specs.Promise.{all_calls}
use Rattle.rows.specs.Written.{written}
use Rattle.people.specs.Layout.{words_asked, work_words, person_words, person_row, laid, image, limit_in, count_in, family_in, rest_in, parents_fit, Valid, Sound}
use Rattle.people.proofs.Layouts.{length-family, limit_image, laid_same, working_set, image_none}
use Rattle.people.proofs.Valids.{valid_none, valid_born, valid_dies, valid_two, valid_there, valid_ranked, apart_parents}
use Rattle.theory.specs.Living.{alive}
use Rattle.children.specs.Links.{link_row, TwoParents}
use Rattle.living.specs.Marks.{begun, ended}
use Rattle.living.specs.Places.{Held, ParentsThere}
use Rattle.living.proofs.Changes.{birth_kept, death_kept, revival_kept}
use Rattle.theory.specs.Answers.{answer_taken}
use Rattle.service.specs.Desks.{limits, state, bytes_asked}
use Rattle.service.specs.Service.{Served, Opened}
use Rattle.service.proofs.Serving.{sound_image, refusal_served, taken_served}

-- what turns a birth or a death away
refusal_born :
    (n : ℕ) (f : Family) (m d : ℕ) → refusal (limits n) f (born m d) ≡ cond (parents_fit (length f) m d) (cond (ltb (length f) n) 0 6) 4
unfolding refusal_of call_number
refusal_born n f m d = refl

refusal_dies : (n : ℕ) (f : Family) (a : ℕ) → refusal (limits n) f (dies a) ≡ cond (ltb a (length f)) (cond (person f a).lives 0 5) 4
unfolding refusal_of call_number
refusal_dies n f a = refl

place_born : (m d : ℕ) → place (born m d) ≡ 0
unfolding place
place_born m d = refl

place_dies : (a : ℕ) → place (dies a) ≡ 0
unfolding place
place_dies a = refl

changed_born : (f : Family) (m d : ℕ) → changed f (born m d) ≡ f ++ (newborn m d ∷ [])
unfolding changed
changed_born f m d = refl

changed_dies : (f : Family) (a : ℕ) → changed f (dies a) ≡ set f a (dead (person f a))
unfolding changed
changed_dies f a = refl

said_born : (f : Family) (m d : ℕ) → answer_taken f (born m d) ≡ number (length f)
unfolding answer_taken
said_born f m d = refl

said_dies : (f : Family) (a : ℕ) → answer_taken f (dies a) ≡ number a
unfolding answer_taken
said_dies f a = refl

-- births
fits : (ws : List ℕ) (m d : ℕ) (b : Bool) → parents_fit (count_in ws) m d ≡ b → parents_fit (length (family_in ws)) m d ≡ b
fits ws m d b e = let l = length-family ws in rw l e

pub born_not_there : (ws : List ℕ) (m d : ℕ) → Sound ws → parents_fit (count_in ws) m d ≡ false → Served all_calls ws ws (born m d) (refused 4 0)
born_not_there ws m d ok e =
    refusal_served all_calls ws (born m d) 4 0 ok (refusal_born (limit_in ws) (family_in ws) m d ∙ cond-false _ _ _ (fits ws m d false e)) (omega arith) (place_born m d)

pub born_beyond : (ws : List ℕ) (m d : ℕ) → Sound ws → parents_fit (count_in ws) m d ≡ true → ltb (count_in ws) (limit_in ws) ≡ false → Served all_calls ws ws (born m d) (refused 6 0)
born_beyond ws m d ok e full =
    let f = family_in ws in
    let room : ltb (length f) (limit_in ws) ≡ false = ap (λ k. ltb k (limit_in ws)) (length-family ws) ∙ full in
    refusal_served all_calls ws (born m d) 6 0 ok (refusal_born (limit_in ws) f m d ∙ cond-true _ _ _ (fits ws m d true e) ∙ cond-false _ _ _ room) (omega arith) (place_born m d)

pub born_taken :
    (ws mid later : List ℕ) (m d : ℕ) (q : Person) (number' : ℕ) → Sound ws → parents_fit (count_in ws) m d ≡ true → ltb (count_in ws) (limit_in ws) ≡ true → q ≡ newborn m d → number' ≡ count_in ws →
    ((n : ℕ) (f : Family) (s : ℕ → Bool) (work rest : List ℕ) → ws ≡ laid n (length f) (person_row f) (link_row f) s work rest → TwoParents f → (m ≡ d → m ≡ 0) → q ≡ newborn m d →
    mid ≡ laid n (length f + 1) (person_row (f ++ (q ∷ []))) (link_row (f ++ (q ∷ []))) s work rest) →
    ((n : ℕ) (f : Family) (s : ℕ → Bool) (work rest : List ℕ) → Held mid n f s work rest → ParentsThere f n →
    later ≡ laid n (length f) (person_row f) (link_row f) (begun f number' s) work rest) →
    Served all_calls ws later (born m d) (number number')
born_taken ws mid later m d q number' ok e free new is added begins =
    let n = limit_in ws in
    let f = family_in ws in
    let l = length-family ws in
    let rest = rest_in ws in
    let work = replicate (work_words n) 0 in
    let fit = fits ws m d true e in
    let room : ltb (length f) n ≡ true = ap (λ k. ltb k n) l ∙ free in
    let taken : refusal (limits n) f (born m d) ≡ 0 = refusal_born n f m d ∙ cond-true _ _ _ fit ∙ cond-true _ _ _ room in
    let lt : length f < n = ltb-true (length f) n room in
    let x = newborn m d in
    let g = f ++ (x ∷ []) in
    let long = length_push f x in
    let valid : Valid g = valid_born f m d ok.2 fit in
    let put : mid ≡ laid n (length g) (person_row g) (link_row g) (alive f) work rest =
    added n f (alive f) work rest ok.0 (valid_two f ok.2) (apart_parents (length f) m d fit) new
    ∙ (λ i. laid n (sym long i) (person_row (f ++ (new i ∷ []))) (link_row (f ++ (new i ∷ []))) (alive f) work rest) in
    let wrote : later ≡ image n g rest =
    begins n g (alive f) work rest (put, omega arith) (valid_there g n valid (omega arith))
    ∙ ap (λ k. laid n (length g) (person_row g) (link_row g) (begun g k (alive f)) work rest) (is ∙ sym l)
    ∙ laid_same n (length g) (person_row g) (link_row g) (begun g (length f) (alive f)) work rest (alive g) (birth_kept x (valid_ranked f ok.2) (valid_ranked g valid) refl) in
    let made = changed_born f m d in
    subst (λ a. Served all_calls ws later (born m d) a) (said_born f m d ∙ ap number (l ∙ sym is))
    (taken_served all_calls ws later (born m d) ok taken (rw made (omega arith)) (rw made valid) (rw made wrote))

-- deaths
pub dies_not_there : (ws : List ℕ) (a : ℕ) → Sound ws → length (family_in ws) ≤ a → Served all_calls ws ws (dies a) (refused 4 0)
dies_not_there ws a ok h =
    refusal_served all_calls ws (dies a) 4 0 ok (refusal_dies (limit_in ws) (family_in ws) a ∙ cond-false _ _ _ (le-ltb a (length (family_in ws)) h)) (omega arith) (place_dies a)

pub dies_not_allowed :
    (ws : List ℕ) (a : ℕ) (q : Person) → Sound ws → a < length (family_in ws) → q ≡ person (family_in ws) a → q.lives ≡ false → Served all_calls ws ws (dies a) (refused 5 0)
dies_not_allowed ws a q ok h is dead' =
    let f = family_in ws in
    refusal_served all_calls ws (dies a) 5 0 ok
    (refusal_dies (limit_in ws) f a ∙ cond-true _ _ _ (lt-ltb a (length f) h) ∙ cond-false _ _ _ (ap (λ p. p.lives) (sym is) ∙ dead')) (omega arith) (place_dies a)

-- somebody marked dead, and the marks of lines after it; and somebody marked living again
pub death_left :
    (n : ℕ) (f : Family) (rest ws mid later : List ℕ) (a : ℕ) (q : Person) → ws ≡ image n f rest → Valid f → length f ≤ n → a < length f → q ≡ person f a →
    mid ≡ written (2 + 4 * a) (person_words (dead q)) ws →
    ((n : ℕ) (f : Family) (s : ℕ → Bool) (work rest : List ℕ) → Held mid n f s work rest → ParentsThere f n →
    later ≡ laid n (length f) (person_row f) (link_row f) (ended f a s) work rest) →
    later ≡ image n (set f a (dead (person f a))) rest
death_left n f rest ws mid later a q e ok room h is w ends =
    let work = replicate (work_words n) 0 in
    let x = dead (person f a) in
    let g = set f a x in
    let long = length-set f a x in
    let put : mid ≡ laid n (length g) (person_row g) (link_row g) (alive f) work rest =
    w ∙ (λ i. written (2 + 4 * a) (person_words (dead (is i))) (e i)) ∙ working_set n f (alive f) work rest a x room h refl refl in
    ends n g (alive f) work rest (put, omega arith) (valid_there g n (valid_dies f a h ok) (omega arith))
    ∙ laid_same n (length g) (person_row g) (link_row g) (ended g a (alive f)) work rest (alive g) (death_kept a x (valid_ranked f ok) h refl refl refl)

pub revival_left :
    (n : ℕ) (g : Family) (rest ws mid later : List ℕ) (a : ℕ) (x : Person) → ws ≡ image n g rest → Valid g → Valid (set g a x) → length g ≤ n → a < length g →
    x.mother ≡ (person g a).mother → x.father ≡ (person g a).father → x.lives ≡ true → mid ≡ written (2 + 4 * a) (person_words x) ws →
    ((n : ℕ) (f : Family) (s : ℕ → Bool) (work rest : List ℕ) → Held mid n f s work rest → ParentsThere f n →
    later ≡ laid n (length f) (person_row f) (link_row f) (begun f a s) work rest) →
    later ≡ image n (set g a x) rest
revival_left n g rest ws mid later a x e ok again room h m d lives w begins =
    let work = replicate (work_words n) 0 in
    let f = set g a x in
    let long = length-set g a x in
    let put : mid ≡ laid n (length f) (person_row f) (link_row f) (alive g) work rest =
    w ∙ ap (written (2 + 4 * a) (person_words x)) e ∙ working_set n g (alive g) work rest a x room h m d in
    begins n f (alive g) work rest (put, omega arith) (valid_there f n again (omega arith))
    ∙ laid_same n (length f) (person_row f) (link_row f) (begun f a (alive g)) work rest (alive f) (revival_kept a x (valid_ranked g ok) h m d lives)

pub dies_taken :
    (ws mid later : List ℕ) (a : ℕ) (q : Person) → Sound ws → a < length (family_in ws) → q ≡ person (family_in ws) a → q.lives ≡ true →
    mid ≡ written (2 + 4 * a) (person_words (dead q)) ws →
    ((n : ℕ) (f : Family) (s : ℕ → Bool) (work rest : List ℕ) → Held mid n f s work rest → ParentsThere f n →
    later ≡ laid n (length f) (person_row f) (link_row f) (ended f a s) work rest) →
    Served all_calls ws later (dies a) (number a)
dies_taken ws mid later a q ok h is lives w ends =
    let n = limit_in ws in
    let f = family_in ws in
    let l = length-family ws in
    let x = dead (person f a) in
    let g = set f a x in
    let long = length-set f a x in
    let taken : refusal (limits n) f (dies a) ≡ 0 =
    refusal_dies n f a ∙ cond-true _ _ _ (lt-ltb a (length f) h) ∙ cond-true _ _ _ (ap (λ p. p.lives) (sym is) ∙ lives) in
    let valid : Valid g = valid_dies f a h ok.2 in
    let wrote : later ≡ image n g (rest_in ws) = death_left n f (rest_in ws) ws mid later a q ok.0 ok.2 (omega arith) h is w ends in
    let made = changed_dies f a in
    subst (λ b. Served all_calls ws later (dies a) b) (said_dies f a)
    (taken_served all_calls ws later (dies a) ok taken (rw made (omega arith)) (rw made valid) (rw made wrote))

-- bytes that are no call, at any stage
pub unreadable_refused : (can : ℕ → Bool) (ws : List ℕ) (k : ℕ) (c : Call) → Sound ws → unreadable k ≡ c → Served can ws ws c (refused 1 k)
unfolding call_number refusal_of place
unreadable_refused can ws k c ok e = subst (λ d. Served can ws ws d (refused 1 k)) e (refusal_served can ws (unreadable k) 1 k ok refl (omega arith) refl)

-- opening
pub opened :
    (ws later : List ℕ) (bytes n : ℕ) → n ≤ 4096 → words_asked n ≤ length ws → bytes_asked n ≤ bytes →
    later ≡ set (written 0 (replicate (words_asked n) 0) ws) 0 n → Opened ws later bytes n (Ok tt)
opened ws later bytes n most words room w =
    let rest = drop (words_asked n) ws in
    let e : later ≡ image n [] rest = w ∙ image_none n ws words in
    record {
      left = ap state e;
      value = sym (cond-false _ _ _ (le-ltb 4096 n most) ∙ cond-false _ _ _ (or_from _ _ (le-ltb (length ws) (words_asked n) words) (le-ltb bytes (bytes_asked n) room)));
      sound = λ _. (sound_image n [] rest later most (omega arith) valid_none e, subst (λ k. bytes_asked k ≤ bytes) (sym (ap limit_in e ∙ limit_image n [] rest)) room);
    }
