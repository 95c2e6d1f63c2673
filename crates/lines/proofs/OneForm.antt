-- A row of bytes is a line exactly if it is the text of what it says. Assumes nothing.
use Rattle.std.proofs.Common.{◌≡◌, ℕ, Bool, true, false, not, ◌&&◌, eqb, leb, List, [], ◌∷◌, ◌++◌, length, drop, Some, None, codes, Option, sym, refl, ap, ◌∙◌, inl, inr, arith}
use Rattle.std.proofs.lemmas.List.{append-nil, append_assoc, drop_at}
use Rattle.std.proofs.lemmas.Slice.Eq.{bytes_eq-Decides}
use Rattle.std.proofs.lemmas.Bool.{and_parts, and_from, and_left, or_parts, eqb-true, eq-eqb, cases_Bool, cond-true, cond-false, not-true, both_ways}
use Rattle.std.specs.Option.{option_map}
use Rattle.std.specs.Str.{bytes_eq}
use Rattle.lines.specs.Words.{begins, Halves, after_all, cut, split_in, split_off}
use Rattle.lines.specs.Names.{name_byte, name_bytes, characters, no_space_at_ends, well_formed, is_text, unknown, and_here, has_and, and_first, is_name, name_in}
use Rattle.lines.specs.Grammar.{Line, Parents, parents_text, died_text, spouse_text, line_text, names_maybe, all_names, spouse_in, died_in, mother_in, with_father, both_parents, mother_alone, parents_cut, parents_in, joined_up, read_line}
use Rattle.lines.proofs.Cuts.{begins_true, begins_self, cut_here, cut_other, mapped_after}
use Rattle.lines.proofs.Readings.{read_pieces}

-- WHAT WAS CUT IS JOINED AGAIN.

-- the word and what is behind it, where there is something
abbrev pub rest_text : List ℕ → Option (List ℕ) → List ℕ
rest_text w None = []
rest_text w (Some bs) = w ++ bs

after_back : (w bs : List ℕ) (b : ℕ) (o : Option Halves) (h : Halves) → option_map (after_all (b ∷ [])) o ≡ Some h → ((g : Halves) → o ≡ Some g → bs ≡ g.before ++ (w ++ g.behind)) →
    b ∷ bs ≡ h.before ++ (w ++ h.behind)
after_back w bs b None h e f = absurd (grind arith)
after_back w bs b (Some g) h e f =
    let before : b ∷ g.before ≡ h.before = cc in
    let behind : g.behind ≡ h.behind = cc in
    ap (λ (xs : List ℕ). b ∷ xs) (f g refl) ∙ (λ i. before i ++ (w ++ behind i))

pub cut_back : (w bs : List ℕ) (h : Halves) → cut w bs ≡ Some h → bs ≡ h.before ++ (w ++ h.behind)
unfolding cut
cut_back w [] h e = absurd (grind arith)
cut_back w (b ∷ bs) h e =
    elim (cases_Bool (begins w (b ∷ bs))) [
      | inl t ↦ let found = sym (cut_here w (b ∷ bs) (omega arith) t) ∙ e in
          let before : ◌≡◌ {A = List ℕ} [] h.before = cc in
          let behind : drop (length w) (b ∷ bs) ≡ h.behind = cc in
          begins_true w (b ∷ bs) t ∙ (λ i. before i ++ (w ++ behind i))
      | inr t ↦ after_back w bs b (cut w bs) h (sym (cut_other w bs b t) ∙ e) (λ g q. cut_back w bs g q)
    ]

split_back : (w bs : List ℕ) → bs ≡ (split_off w bs).front ++ rest_text w (split_off w bs).rest
split_back w bs = by (cut w bs) (λ h e. cut_back w bs h e) where
  by : (o : Option Halves) → ((h : Halves) → o ≡ Some h → bs ≡ h.before ++ (w ++ h.behind)) → bs ≡ (split_in bs o).front ++ rest_text w (split_in bs o).rest
  by None f = sym (append-nil bs)
  by (Some h) f = f h refl

name_back : (bs m : List ℕ) → name_in bs ≡ Some m → (bs ≡ m) × (is_name m ≡ true)
name_back bs m e =
    elim (cases_Bool (is_name bs)) [
      | inl t ↦ let same : bs ≡ m = (let f = sym (cond-true (is_name bs) (Some bs) None t) ∙ e in cc) in (same, ap is_name (sym same) ∙ t)
      | inr t ↦ absurd (let f = sym (cond-false (is_name bs) (Some bs) None t) ∙ e in grind arith)
    ]

maybe_back : (bs : List ℕ) (s : Option (List ℕ)) → option_map Some (name_in bs) ≡ Some s → (s ≡ Some bs) × (is_name bs ≡ true)
maybe_back bs s e =
    elim (cases_Bool (is_name bs)) [
      | inl t ↦ (let f = ap (option_map Some) (sym (cond-true (is_name bs) (Some bs) None t)) ∙ e in cc, t)
      | inr t ↦ absurd (let f = ap (option_map Some) (sym (cond-false (is_name bs) (Some bs) None t)) ∙ e in grind arith)
    ]

spouse_back : (o s : Option (List ℕ)) → spouse_in o ≡ Some s → (rest_text (codes ", spouse of ") o ≡ spouse_text s) × (names_maybe s ≡ true)
spouse_back None s e = let f : ◌≡◌ {A = Option (List ℕ)} None s = cc in (ap spouse_text f, sym (ap names_maybe f))
spouse_back (Some bs) s e = let p = maybe_back bs s e in (ap spouse_text (sym p.0), ap names_maybe p.0 ∙ p.1)

died_back : (o : Option (List ℕ)) (d : Bool) → died_in o ≡ Some d → rest_text (codes ", died") o ≡ died_text d
died_back None d e = let f : false ≡ d = cc in ap died_text f
died_back (Some []) d e = let f : true ≡ d = cc in ap died_text f
died_back (Some (b ∷ bs)) d e = absurd (grind arith)

-- what is known of parents that were read
pub record Couple (text : List ℕ) (p : Parents) : Type 0 where
  pub is : text ≡ parents_text p.mother p.father
  pub mother : names_maybe p.mother ≡ true
  pub father : names_maybe p.father ≡ true

couple_of : (before behind bs : List ℕ) (m : Option (List ℕ)) (p : Parents) → bs ≡ before ++ (codes " and " ++ behind) → with_father m (name_in behind) ≡ Some p →
    ((f : List ℕ) → codes ", of " ++ (before ++ (codes " and " ++ f)) ≡ parents_text m (Some f)) → names_maybe m ≡ true → Couple (codes ", of " ++ bs) p
couple_of before behind bs m p e q shown ok =
    elim (cases_Bool (is_name behind)) [
      | inl t ↦ let made : Some (record { mother = m; father = Some behind }) ≡ Some p = ap (with_father m) (sym (cond-true (is_name behind) (Some behind) None t)) ∙ q in
          let mother : m ≡ p.mother = cc in
          let father : Some behind ≡ p.father = cc in
          record {
            is = ap (λ (xs : List ℕ). codes ", of " ++ xs) e ∙ (shown behind ∙ (λ i. parents_text (mother i) (father i)));
            mother = ap names_maybe (sym mother) ∙ ok;
            father = ap names_maybe (sym father) ∙ t;
          }
      | inr t ↦ absurd (let f = ap (with_father m) (sym (cond-false (is_name behind) (Some behind) None t)) ∙ q in grind arith)
    ]

both_back : (bs : List ℕ) (h : Halves) (p : Parents) → bs ≡ h.before ++ (codes " and " ++ h.behind) → both_parents (mother_in h.before) (name_in h.behind) ≡ Some p →
    Couple (codes ", of " ++ bs) p
both_back bs h p e q =
    elim (cases_Bool (bytes_eq h.before unknown)) [
      | inl t ↦ let is : h.before ≡ unknown = (bytes_eq-Decides h.before unknown).0 t in
          couple_of h.before h.behind bs None p e
          (ap (λ (m : Option (Option (List ℕ))). both_parents m (name_in h.behind)) (sym (cond-true (bytes_eq h.before unknown) (Some None) (option_map Some (name_in h.before)) t)) ∙ q)
          (λ f. ap (λ (xs : List ℕ). codes ", of " ++ (xs ++ (codes " and " ++ f))) is) refl
      | inr t ↦ let named = ap (λ (m : Option (Option (List ℕ))). both_parents m (name_in h.behind)) (sym (cond-false (bytes_eq h.before unknown) (Some None) (option_map Some (name_in h.before)) t)) ∙ q in
          elim (cases_Bool (is_name h.before)) [
            | inl n ↦ couple_of h.before h.behind bs (Some h.before) p e
                (ap (λ (m : Option (List ℕ)). both_parents (option_map Some m) (name_in h.behind)) (sym (cond-true (is_name h.before) (Some h.before) None n)) ∙ named)
                (λ f. refl) n
            | inr n ↦ absurd (let f = ap (λ (m : Option (List ℕ)). both_parents (option_map Some m) (name_in h.behind)) (sym (cond-false (is_name h.before) (Some h.before) None n)) ∙ named in grind arith)
          ]
    ]

alone_back : (bs : List ℕ) (p : Parents) → mother_alone (name_in bs) ≡ Some p → Couple (codes ", of " ++ bs) p
alone_back bs p q =
    elim (cases_Bool (is_name bs)) [
      | inl t ↦ let made : Some (record { mother = Some bs; father = None }) ≡ Some p = ap mother_alone (sym (cond-true (is_name bs) (Some bs) None t)) ∙ q in
          let mother : Some bs ≡ p.mother = cc in
          let father : ◌≡◌ {A = Option (List ℕ)} None p.father = cc in
          record { is = (λ i. parents_text (mother i) (father i)); mother = ap names_maybe (sym mother) ∙ t; father = ap names_maybe (sym father) }
      | inr t ↦ absurd (let f = ap mother_alone (sym (cond-false (is_name bs) (Some bs) None t)) ∙ q in grind arith)
    ]

parents_back : (o : Option (List ℕ)) (p : Parents) → parents_in o ≡ Some p → Couple (rest_text (codes ", of ") o) p
parents_back None p e =
    let mother : ◌≡◌ {A = Option (List ℕ)} None p.mother = cc in
    let father : ◌≡◌ {A = Option (List ℕ)} None p.father = cc in
    record { is = (λ i. parents_text (mother i) (father i)); mother = ap names_maybe (sym mother); father = ap names_maybe (sym father) }
parents_back (Some bs) p e = by (cut (codes " and ") bs) (λ h q. cut_back (codes " and ") bs h q) e where
  by : (o : Option Halves) → ((h : Halves) → o ≡ Some h → bs ≡ h.before ++ (codes " and " ++ h.behind)) → parents_cut bs o ≡ Some p → Couple (codes ", of " ++ bs) p
  by None f q = alone_back bs p q
  by (Some h) f q = both_back bs h p (f h refl) q

-- the pieces of a line that was read
pub record Joined (n : Option (List ℕ)) (p : Option Parents) (d : Option Bool) (s : Option (Option (List ℕ))) (l : Line) : Type 0 where
  pub name : n ≡ Some l.name
  pub parents : p ≡ Some (record { mother = l.mother; father = l.father })
  pub died : d ≡ Some l.died
  pub spouse : s ≡ Some l.spouse

joined_back : (n : Option (List ℕ)) (p : Option Parents) (d : Option Bool) (s : Option (Option (List ℕ))) (l : Line) → joined_up n p d s ≡ Some l → Joined n p d s l
joined_back None p d s l e = absurd (grind arith)
joined_back (Some n) None d s l e = absurd (grind arith)
joined_back (Some n) (Some p) None s l e = absurd (grind arith)
joined_back (Some n) (Some p) (Some d) None l e = absurd (grind arith)
joined_back (Some n) (Some p) (Some d) (Some s) l e =
    let name : n ≡ l.name = cc in
    let mother : p.mother ≡ l.mother = cc in
    let father : p.father ≡ l.father = cc in
    let died : d ≡ l.died = cc in
    let spouse : s ≡ l.spouse = cc in
    record { name = ap Some name; parents = (λ i. Some (record { mother = mother i; father = father i })); died = ap Some died; spouse = ap Some spouse }

pub line_back : (bs : List ℕ) (l : Line) → read_line bs ≡ Some l → (all_names l ≡ true) × (line_text l ≡ bs)
unfolding read_line
line_back bs l e =
    let s = split_off (codes ", spouse of ") bs in
    let d = split_off (codes ", died") s.front in
    let p = split_off (codes ", of ") d.front in
    let j = joined_back (name_in p.front) (parents_in p.rest) (died_in d.rest) (spouse_in s.rest) l e in
    let name = name_back p.front l.name j.name in
    let couple = parents_back p.rest (record { mother = l.mother; father = l.father }) j.parents in
    let death = died_back d.rest l.died j.died in
    let spouse = spouse_back s.rest l.spouse j.spouse in
    let one = split_back (codes ", spouse of ") bs in
    let two = split_back (codes ", died") s.front in
    let three = split_back (codes ", of ") d.front in
    let a = l.name in
    let b = parents_text l.mother l.father in
    let c = died_text l.died in
    let f = spouse_text l.spouse in
    let whole : ((a ++ b) ++ c) ++ f ≡ a ++ (b ++ (c ++ f)) = simp append_assoc in
    let up : bs ≡ ((a ++ b) ++ c) ++ f =
    one ∙ ((λ i. (two ∙ (λ k. (three ∙ (λ q. name.0 q ++ couple.is q)) k ++ death k)) i ++ spouse.0 i)) in (
      and_from (is_name a) (names_maybe l.mother && (names_maybe l.father && names_maybe l.spouse)) name.1
          (and_from (names_maybe l.mother) (names_maybe l.father && names_maybe l.spouse) couple.mother
          (and_from (names_maybe l.father) (names_maybe l.spouse) couple.father spouse.1)),
      sym (up ∙ whole),
    )

-- WHAT WAS PRINTED IS CUT WHERE IT WAS JOINED.

-- the word stands nowhere in x, nor begins there
abbrev pub Passes : List ℕ → List ℕ → List ℕ → Type 0
Passes w [] rest = Unit {0}
Passes w (b ∷ x) rest = (begins w (b ∷ (x ++ rest)) ≡ false) × Passes w x rest

skipped : (w x rest : List ℕ) → Passes w x rest → cut w (x ++ rest) ≡ option_map (after_all x) (cut w rest)
skipped w [] rest h = same (cut w rest) where
  same : (o : Option Halves) → o ≡ option_map (after_all []) o
  same None = refl
  same (Some g) = refl
skipped w (b ∷ x) rest h = cut_other w (x ++ rest) b h.0 ∙ (ap (option_map (after_all (b ∷ []))) (skipped w x rest h.1) ∙ mapped_after (b ∷ []) x (cut w rest))

-- whatever is behind x
abbrev pub Skips : List ℕ → List ℕ → Type 0
Skips w x = (rest : List ℕ) → cut w (x ++ rest) ≡ option_map (after_all x) (cut w rest)

skips_append : (w x y : List ℕ) → Skips w x → Skips w y → Skips w (x ++ y)
skips_append w x y f g rest =
    ap (cut w) (append_assoc x y rest) ∙ (f (y ++ rest) ∙ (ap (option_map (after_all x)) (g rest) ∙ mapped_after x y (cut w rest)))

skips_none : (w : List ℕ) → Skips w []
skips_none w rest = skipped w [] rest tt

not_in_name : (a b : ℕ) → name_byte a ≡ false → name_byte b ≡ true → eqb a b ≡ false
not_in_name a b n h = elim (cases_Bool (eqb a b)) [ inl t ↦ absurd (both_ways (name_byte a) n (ap name_byte (eqb-true a b t) ∙ h)) | inr t ↦ t ]

-- names hold neither a comma nor a newline, with which the words begin
names_skip : (a : ℕ) (w x : List ℕ) → name_byte a ≡ false → name_bytes x ≡ true → Skips (a ∷ w) x
names_skip a w x n h rest = skipped (a ∷ w) x rest (passes x h) where
  passes : (y : List ℕ) → name_bytes y ≡ true → Passes (a ∷ w) y rest
  passes [] g = tt
  passes (b ∷ y) g =
      let p = and_parts (name_byte b) (name_bytes y) g in (and_left (eqb a b) (begins w (y ++ rest)) (not_in_name a b n p.0), passes y p.1)

split_skip : (b : ℕ) (w x : List ℕ) (o : Option (List ℕ)) → Skips (b ∷ w) x → split_off (b ∷ w) (x ++ rest_text (b ∷ w) o) ≡ record { front = x; rest = o }
unfolding cut
split_skip b w x None f = ap (split_in (x ++ [])) (f []) ∙ (λ i. record { front = append-nil x i; rest = None })
split_skip b w x (Some y) f =
    let word = b ∷ w in
    let here = cut_here word (word ++ y) (omega arith) (begins_self word y) in
    ap (split_in (x ++ (word ++ y))) (f (word ++ y) ∙ ap (option_map (after_all x)) here)
    ∙ (λ i. record { front = append-nil x i; rest = Some (drop_at word y (length word) refl i) })

-- The word and: where " and " begins inside a name, whatever of it is behind the name, the name has the word.
five : (p q r s t : Bool) → (p && (q && (r && (s && (t && true))))) ≡ true → ((p && (q && (r && (s && true)))) ≡ true) × (t ≡ true)
five true true true true true e = (refl, refl)
five true true true true false e = absurd (both_ways false refl e)
five true true true false t e = absurd (both_ways false refl e)
five true true false s t e = absurd (both_ways false refl e)
five true false r s t e = absurd (both_ways false refl e)
five false q r s t e = absurd (both_ways false refl e)

-- what may stand behind a name: nothing, or another space and a letter
abbrev pub spaced : List ℕ → List ℕ → List ℕ
spaced [] x = []
spaced (b ∷ bs) x = 32 ∷ (97 ∷ x)

here_from : (x ys rest : List ℕ) (b : ℕ) → begins (codes " and ") (b ∷ (ys ++ spaced x rest)) ≡ true → and_here (b ∷ ys) ≡ true
here_from [] [] rest b e = absurd (both_ways false refl (and_parts (eqb 32 b) false e).1)
here_from (z ∷ zs) [] rest b e = absurd (both_ways false refl (and_parts (eqb 32 b) false e).1)
here_from [] (a ∷ []) rest b e = absurd (both_ways false refl (and_parts (eqb 97 a) false (and_parts (eqb 32 b) (eqb 97 a && false) e).1).1)
here_from (z ∷ zs) (a ∷ []) rest b e = absurd (both_ways false refl (and_parts (eqb 97 a) false (and_parts (eqb 32 b) (eqb 97 a && false) e).1).1)
here_from [] (a ∷ (c ∷ [])) rest b e =
    absurd (both_ways false refl
    (and_parts (eqb 110 c) false (and_parts (eqb 97 a) (eqb 110 c && false) (and_parts (eqb 32 b) (eqb 97 a && (eqb 110 c && false)) e).1).1).1)
here_from (z ∷ zs) (a ∷ (c ∷ [])) rest b e =
    absurd (both_ways false refl
    (and_parts (eqb 110 c) false (and_parts (eqb 97 a) (eqb 110 c && false) (and_parts (eqb 32 b) (eqb 97 a && (eqb 110 c && false)) e).1).1).1)
here_from [] (a ∷ (c ∷ (d ∷ []))) rest b e =
    absurd (both_ways false refl
    (and_parts (eqb 100 d) false (and_parts (eqb 110 c) (eqb 100 d && false) (and_parts (eqb 97 a) (eqb 110 c && (eqb 100 d && false)) (and_parts (eqb 32 b) (eqb 97 a && (eqb 110 c && (eqb 100 d && false))) e).1).1).1).1)
here_from (z ∷ zs) (a ∷ (c ∷ (d ∷ []))) rest b e =
    let p = five (eqb 32 b) (eqb 97 a) (eqb 110 c) (eqb 100 d) true e in
    and_from (eqb 32 b && (eqb 97 a && (eqb 110 c && (eqb 100 d && true)))) true p.0 refl
here_from x (a ∷ (c ∷ (d ∷ (f ∷ ys)))) rest b e =
    let p = five (eqb 32 b) (eqb 97 a) (eqb 110 c) (eqb 100 d) (eqb 32 f) e in
    and_from (eqb 32 b && (eqb 97 a && (eqb 110 c && (eqb 100 d && true)))) (eqb f 32) p.0 (eq-eqb f 32 (sym (eqb-true 32 f p.1)))

and_passes : (x m rest : List ℕ) → has_and m ≡ false → Passes (codes " and ") m (spaced x rest)
unfolding has_and
and_passes x [] rest h = tt
and_passes x (b ∷ m) rest h =
    let p = or_parts (and_here (b ∷ m)) (has_and m) h in (
      elim (cases_Bool (begins (codes " and ") (b ∷ (m ++ spaced x rest)))) [
        | inl t ↦ absurd (both_ways (and_here (b ∷ m)) p.0 (here_from x m rest b t))
        | inr t ↦ t
      ],
      and_passes x m rest p.1,
    )

name_well : (bs : List ℕ) → is_name bs ≡ true → well_formed bs ≡ true
unfolding is_name
name_well bs h = (and_parts (well_formed bs) (is_text bs) h).0

-- what a name is
pub record Name (bs : List ℕ) : Type 0 where
  pub bytes : name_bytes bs ≡ true
  pub no_and : has_and bs ≡ false
  pub known : bytes_eq bs unknown ≡ false

pub name_parts : (bs : List ℕ) → is_name bs ≡ true → Name bs
name_parts bs h =
    let w = name_well bs h in
    let one = and_parts (name_bytes bs) _ w in
    let two = and_parts (no_space_at_ends bs) _ one.1 in
    let three = and_parts (leb (characters bs) 64) _ two.1 in
    let rest = and_parts (not (and_first bs)) _ three.1 in
    let four = and_parts (not (has_and bs)) (not (bytes_eq bs unknown)) rest.1 in
    record { bytes = one.0; no_and = not-true (has_and bs) four.0; known = not-true (bytes_eq bs unknown) four.1 }

name_read : (bs : List ℕ) → is_name bs ≡ true → name_in bs ≡ Some bs
name_read bs h = cond-true (is_name bs) (Some bs) None h

-- the bytes behind the word of, if there are any
abbrev pub parents_said : Option (List ℕ) → Option (List ℕ) → Option (List ℕ)
parents_said None None = None
parents_said (Some m) None = Some m
parents_said None (Some f) = Some (unknown ++ (codes " and " ++ f))
parents_said (Some m) (Some f) = Some (m ++ (codes " and " ++ f))

parents_shown : (m f : Option (List ℕ)) → parents_text m f ≡ rest_text (codes ", of ") (parents_said m f)
parents_shown None None = refl
parents_shown (Some m) None = refl
parents_shown None (Some f) = refl
parents_shown (Some m) (Some f) = refl

parents_read : (m f : Option (List ℕ)) → names_maybe m ≡ true → names_maybe f ≡ true → parents_in (parents_said m f) ≡ Some (record { mother = m; father = f })
unfolding cut
parents_read None None h g = refl
parents_read (Some m) None h g =
    let whole : cut (codes " and ") m ≡ None =
    ap (cut (codes " and ")) (sym (append-nil m)) ∙ skipped (codes " and ") m [] (and_passes [] m [] (name_parts m h).no_and) in
    ap (parents_cut m) whole ∙ ap mother_alone (name_read m h)
parents_read None (Some f) h g = ap (with_father None) (name_read f g)
parents_read (Some m) (Some f) h g =
    let rest = 110 ∷ (100 ∷ (32 ∷ f)) in
    let whole : cut (codes " and ") (m ++ (codes " and " ++ f)) ≡ Some (record { before = m; behind = f }) =
    skipped (codes " and ") m (codes " and " ++ f) (and_passes (0 ∷ []) m rest (name_parts m h).no_and) ∙ (λ i. Some (record { before = append-nil m i; behind = f })) in
    ap (parents_cut (m ++ (codes " and " ++ f))) whole
    ∙ (λ i. both_parents
    ((cond-false (bytes_eq m unknown) (Some None) (option_map Some (name_in m)) (name_parts m h).known ∙ ap (option_map Some) (name_read m h)) i) (name_read f g i))

spouse_read : (s : Option (List ℕ)) → names_maybe s ≡ true → spouse_in s ≡ Some s
spouse_read None h = refl
spouse_read (Some s) h = ap (option_map Some) (name_read s h)

abbrev pub death_said : Bool → Option (List ℕ)
death_said false = None
death_said true = Some []

death_shown : (d : Bool) → died_text d ≡ rest_text (codes ", died") (death_said d)
death_shown true = refl
death_shown false = refl

death_read : (d : Bool) → died_in (death_said d) ≡ Some d
death_read true = refl
death_read false = refl

spouse_shown : (s : Option (List ℕ)) → spouse_text s ≡ rest_text (codes ", spouse of ") s
spouse_shown None = refl
spouse_shown (Some s) = refl

-- the text of the parents is passed over, where neither of the words is that of the parents
maybe_bytes : (m : List ℕ) → is_name m ≡ true → name_bytes m ≡ true
maybe_bytes m h = (name_parts m h).bytes

parents_skip : (a : ℕ) (w : List ℕ) (m f : Option (List ℕ)) → name_byte a ≡ false → Skips (a ∷ w) (codes ", of ") → names_maybe m ≡ true → names_maybe f ≡ true → Skips (a ∷ w) (parents_text m f)
parents_skip a w None None n o h g = skips_none (a ∷ w)
parents_skip a w (Some m) None n o h g = skips_append (a ∷ w) (codes ", of ") m o (names_skip a w m n (maybe_bytes m h))
parents_skip a w None (Some f) n o h g =
    skips_append (a ∷ w) (codes ", of ") (unknown ++ (codes " and " ++ f)) o
    (skips_append (a ∷ w) (codes "unknown and ") f (names_skip a w (codes "unknown and ") n refl) (names_skip a w f n (maybe_bytes f g)))
parents_skip a w (Some m) (Some f) n o h g =
    skips_append (a ∷ w) (codes ", of ") (m ++ (codes " and " ++ f)) o
    (skips_append (a ∷ w) m (codes " and " ++ f) (names_skip a w m n (maybe_bytes m h))
    (skips_append (a ∷ w) (codes " and ") f (names_skip a w (codes " and ") n refl) (names_skip a w f n (maybe_bytes f g))))

of_skips_spouse : Skips (codes ", spouse of ") (codes ", of ")
of_skips_spouse rest = skipped (codes ", spouse of ") (codes ", of ") rest (refl, (refl, (refl, (refl, (refl, tt)))))

of_skips_died : Skips (codes ", died") (codes ", of ")
of_skips_died rest = skipped (codes ", died") (codes ", of ") rest (refl, (refl, (refl, (refl, (refl, tt)))))

died_skips : (d : Bool) → Skips (codes ", spouse of ") (died_text d)
died_skips false rest = skips_none (codes ", spouse of ") rest
died_skips true rest = skipped (codes ", spouse of ") (codes ", died") rest (refl, (refl, (refl, (refl, (refl, (refl, tt))))))

pub line_read : (l : Line) → all_names l ≡ true → read_line (line_text l) ≡ Some l
line_read l h =
    let one = and_parts (is_name l.name) _ h in
    let two = and_parts (names_maybe l.mother) _ one.1 in
    let three = and_parts (names_maybe l.father) (names_maybe l.spouse) two.1 in
    let a = l.name in
    let b = parents_text l.mother l.father in
    let d = died_text l.died in
    let e = spouse_text l.spouse in
    let bytes = (name_parts a one.0).bytes in
    let front-skips = skips_append (codes ", died") a b (names_skip 44 (32 ∷ codes "died") a refl bytes) (parents_skip 44 (32 ∷ codes "died") l.mother l.father refl of_skips_died two.0 three.0) in
    let whole-skips =
    skips_append (codes ", spouse of ") (a ++ b) d
    (skips_append (codes ", spouse of ") a b (names_skip 44 (32 ∷ codes "spouse of ") a refl bytes) (parents_skip 44 (32 ∷ codes "spouse of ") l.mother l.father refl of_skips_spouse two.0 three.0))
    (died_skips l.died) in
    let regroup : a ++ (b ++ (d ++ e)) ≡ ((a ++ b) ++ d) ++ e = simp append_assoc in
    let s : record { front = (a ++ b) ++ d; rest = l.spouse } ≡ split_off (codes ", spouse of ") (line_text l) =
    sym (ap (split_off (codes ", spouse of ")) (regroup ∙ ap (λ (x : List ℕ). ((a ++ b) ++ d) ++ x) (spouse_shown l.spouse))
    ∙ split_skip 44 (32 ∷ codes "spouse of ") ((a ++ b) ++ d) l.spouse whole-skips) in
    let t : record { front = a ++ b; rest = death_said l.died } ≡ split_off (codes ", died") ((a ++ b) ++ d) =
    sym (ap (split_off (codes ", died")) (ap (λ (x : List ℕ). (a ++ b) ++ x) (death_shown l.died)) ∙ split_skip 44 (32 ∷ codes "died") (a ++ b) (death_said l.died) front-skips) in
    let p : record { front = a; rest = parents_said l.mother l.father } ≡ split_off (codes ", of ") (a ++ b) =
    sym (ap (split_off (codes ", of ")) (ap (λ (x : List ℕ). a ++ x) (parents_shown l.mother l.father))
    ∙ split_skip 44 (32 ∷ codes "of ") a (parents_said l.mother l.father) (names_skip 44 (32 ∷ codes "of ") a refl bytes)) in
    sym (read_pieces (line_text l) (record { front = (a ++ b) ++ d; rest = l.spouse }) (record { front = a ++ b; rest = death_said l.died }) (record { front = a; rest = parents_said l.mother l.father }) s t p)
    ∙ (λ i. joined_up (name_read a one.0 i) (parents_read l.mother l.father two.0 three.0 i) (death_read l.died i) (spouse_read l.spouse three.1 i))

-- A line holds no newline.
died_on_line : (d : Bool) → Skips (10 ∷ []) (died_text d)
died_on_line false rest = skips_none (10 ∷ []) rest
died_on_line true rest = skipped (10 ∷ []) (codes ", died") rest (refl, (refl, (refl, (refl, (refl, (refl, tt))))))

spouse_on_line : (s : Option (List ℕ)) → names_maybe s ≡ true → Skips (10 ∷ []) (spouse_text s)
spouse_on_line None h = skips_none (10 ∷ [])
spouse_on_line (Some s) h =
    skips_append (10 ∷ []) (codes ", spouse of ") s
    (λ rest. skipped (10 ∷ []) (codes ", spouse of ") rest (refl, (refl, (refl, (refl, (refl, (refl, (refl, (refl, (refl, (refl, (refl, (refl, tt)))))))))))))
    (names_skip 10 [] s refl (maybe_bytes s h))

pub line_on_line : (l : Line) → all_names l ≡ true → Skips (10 ∷ []) (line_text l)
line_on_line l h =
    let one = and_parts (is_name l.name) _ h in
    let two = and_parts (names_maybe l.mother) _ one.1 in
    let three = and_parts (names_maybe l.father) (names_maybe l.spouse) two.1 in
    let of : Skips (10 ∷ []) (codes ", of ") = λ rest. skipped (10 ∷ []) (codes ", of ") rest (refl, (refl, (refl, (refl, (refl, tt))))) in
    skips_append (10 ∷ []) l.name (parents_text l.mother l.father ++ (died_text l.died ++ spouse_text l.spouse)) (names_skip 10 [] l.name refl (name_parts l.name one.0).bytes)
    (skips_append (10 ∷ []) (parents_text l.mother l.father) (died_text l.died ++ spouse_text l.spouse) (parents_skip 10 [] l.mother l.father refl of two.0 three.0)
    (skips_append (10 ∷ []) (died_text l.died) (spouse_text l.spouse) (died_on_line l.died) (spouse_on_line l.spouse three.1)))

-- a line and its end are cut apart again
pub line_cut : (l : Line) (rest : List ℕ) → all_names l ≡ true → cut (10 ∷ []) ((line_text l ++ (10 ∷ [])) ++ rest) ≡ Some (record { before = line_text l; behind = rest })
line_cut l rest h =
    let t = line_text l in
    ap (cut (10 ∷ [])) (append_assoc t (10 ∷ []) rest)
    ∙ (line_on_line l h (10 ∷ rest)
    ∙ (ap (option_map (after_all t)) (cut_here (10 ∷ []) (10 ∷ rest) (omega arith) (begins_self (10 ∷ []) rest)) ∙ (λ i. Some (record { before = append-nil t i; behind = rest }))))
