-- Rows of bytes are read rightly: a call's bytes as that call, all others as unreadable at the first byte that fits no call. Assumes nothing.
use Rattle.std.proofs.Common.{◌≡◌, ℕ, zero, suc, ◌+◌, ◌-◌, ◌*◌, ◌/◌, ◌%◌, ◌<◌, ◌≤◌, ltb, List, [], ◌∷◌, ◌++◌, length, get_or, take, replicate, sym, refl, ap, ◌∙◌, subst, inl, inr, arith}
use Rattle.std.proofs.lemmas.List.{append-nil, length-append, length-replicate, length-take-le, take_all, get_or-take, get_or_append_left}
use Rattle.std.proofs.lemmas.Nat.{mod-mul-add}
use Rattle.std.proofs.ByRecursion.{All-append, All-take}
use Rattle.std.proofs.lemmas.Bool.{cases_Bool, cond_both, ltb-true, ltb-false}
use Rattle.std.specs.List.{flat_map, AllByRecursion}
use Rattle.law.specs.Calls.{Call, born, wed, parted, dies, estate_of, unreadable, call_number}
use Rattle.wire.specs.Bytes.{le4, num4, row_bytes, call_bytes, call_with, call_size, read, is_byte, Begins, FirstMisfit, ReadsRightly}

-- values in four bytes, written again
bytes_back : (a b c d : ℕ) → a < 256 → b < 256 → c < 256 → d < 256 → le4 (a + b * 256 + c * 65536 + d * 16777216) ≡ a ∷ b ∷ c ∷ d ∷ []
unfolding le4
bytes_back a b c d ha hb hc hd =
    let n = a + b * 256 + c * 65536 + d * 16777216 in
    let p : n / 256 ≡ (c + d * 256) * 256 + b = omega arith in
    let q : n / 65536 ≡ d * 256 + c = omega arith in
    let r : n / 16777216 ≡ 0 * 256 + d = omega arith in
    let e : n % 256 ≡ a = omega arith in
    let f : n / 256 % 256 ≡ b = ap (λ x. x % 256) p ∙ mod-mul-add (c + d * 256) 256 b hb in
    let g : n / 65536 % 256 ≡ c = ap (λ x. x % 256) q ∙ mod-mul-add d 256 c hc in
    let h : n / 16777216 % 256 ≡ d = ap (λ x. x % 256) r ∙ mod-mul-add 0 256 d hd in
    rw (e, f, g, h)

one_back : (vs : List ℕ) → AllByRecursion is_byte vs → length vs ≡ 4 → flat_map le4 (num4 vs 0 ∷ []) ++ [] ≡ vs
one_back [] h l = absurd (omega arith)
one_back (a ∷ []) h l = absurd (omega arith)
one_back (a ∷ b ∷ []) h l = absurd (omega arith)
one_back (a ∷ b ∷ c ∷ []) h l = absurd (omega arith)
one_back (a ∷ b ∷ c ∷ d ∷ []) h l = ap (λ r. (r ++ []) ++ []) (bytes_back a b c d h.0 h.1.0 h.1.1.0 h.1.1.1.0)
one_back (a ∷ b ∷ c ∷ d ∷ e ∷ vs) h l = absurd (omega arith)

two_back : (vs : List ℕ) → AllByRecursion is_byte vs → length vs ≡ 8 → flat_map le4 (num4 vs 0 ∷ num4 vs 4 ∷ []) ++ [] ≡ vs
two_back (a ∷ b ∷ c ∷ d ∷ vs) h l =
    ap (λ r. (r ++ (le4 (num4 vs 0) ++ [])) ++ []) (bytes_back a b c d h.0 h.1.0 h.1.1.0 h.1.1.1.0)
    ∙ ap (λ r. a ∷ b ∷ c ∷ d ∷ r) (one_back vs h.1.1.1.1 (omega arith))
two_back [] h l = absurd (omega arith)
two_back (a ∷ []) h l = absurd (omega arith)
two_back (a ∷ b ∷ []) h l = absurd (omega arith)
two_back (a ∷ b ∷ c ∷ []) h l = absurd (omega arith)

-- a row that is as long as its first byte says is its call's bytes
whole_back : (bs : List ℕ) → AllByRecursion is_byte bs → get_or bs 0 0 < 5 → length bs ≡ call_size (get_or bs 0 0)
    → (call_number (call_with (get_or bs 0 0) (num4 bs 1) (num4 bs 5)) < 5) × (call_bytes (call_with (get_or bs 0 0) (num4 bs 1) (num4 bs 5)) ≡ bs)
unfolding call_bytes call_number row_bytes
whole_back [] h k l = absurd (omega arith)
whole_back (zero ∷ vs) h k l = (omega arith, ap (λ r. 0 ∷ r) (two_back vs h.1 (omega arith)))
whole_back (suc zero ∷ vs) h k l = (omega arith, ap (λ r. 1 ∷ r) (two_back vs h.1 (omega arith)))
whole_back (suc (suc zero) ∷ vs) h k l = (omega arith, ap (λ r. 2 ∷ r) (one_back vs h.1 (omega arith)))
whole_back (suc (suc (suc zero)) ∷ vs) h k l = (omega arith, ap (λ r. 3 ∷ r) (one_back vs h.1 (omega arith)))
whole_back (suc (suc (suc (suc zero))) ∷ vs) h k l = (omega arith, ap (λ r. 4 ∷ r) (one_back vs h.1 (omega arith)))
whole_back (suc (suc (suc (suc (suc k)))) ∷ vs) h b l = absurd (omega arith)

-- the four ways in which a row is read
data Way (bs : List ℕ) : Type 0 where
  whole : get_or bs 0 0 < 5 → length bs ≡ call_size (get_or bs 0 0) → read bs ≡ call_with (get_or bs 0 0) (num4 bs 1) (num4 bs 5) → Way bs
  short : get_or bs 0 0 < 5 → length bs < call_size (get_or bs 0 0) → read bs ≡ unreadable (length bs) → Way bs
  long : get_or bs 0 0 < 5 → call_size (get_or bs 0 0) < length bs → read bs ≡ unreadable (call_size (get_or bs 0 0)) → Way bs
  unknown : 5 ≤ get_or bs 0 0 → read bs ≡ unreadable 0 → Way bs

way : (bs : List ℕ) → Way bs
way bs =
    elim (cases_Bool (ltb (get_or bs 0 0) 5)) [
      | inr e ↦ unknown (ltb-false (get_or bs 0 0) 5 e) (rw e)
      | inl e ↦ elim (cases_Bool (ltb (length bs) (call_size (get_or bs 0 0)))) [
        | inl f ↦ short (ltb-true (get_or bs 0 0) 5 e) (ltb-true (length bs) (call_size (get_or bs 0 0)) f) (rw (e, f))
        | inr f ↦ elim (cases_Bool (ltb (call_size (get_or bs 0 0)) (length bs))) [
          | inl g ↦ long (ltb-true (get_or bs 0 0) 5 e) (ltb-true (call_size (get_or bs 0 0)) (length bs) g) (rw (e, f, g))
          | inr g ↦
              let l = ltb-false (length bs) (call_size (get_or bs 0 0)) f in
              let m = ltb-false (call_size (get_or bs 0 0)) (length bs) g in
              whole (ltb-true (get_or bs 0 0) 5 e) (omega arith) (rw (e, f, g))
        ]
      ]
    ]

positive : (k : ℕ) → 0 < call_size k
positive k = cond_both (ltb k 2) 9 5 (λ n. 0 < n) (λ e. omega arith) (λ e. omega arith)

-- What a call begins with: its number, and as many bytes as that says.
call_first : (c : Call) → get_or (call_bytes c) 0 0 ≡ call_number c
unfolding call_bytes row_bytes
call_first c = refl

length-call : (c : Call) → call_number c < 5 → length (call_bytes c) ≡ call_size (call_number c)
unfolding call_bytes call_number row_bytes le4
length-call (born m f) h = refl
length-call (wed a b) h = refl
length-call (parted a) h = refl
length-call (dies a) h = refl
length-call (estate_of a) h = refl
length-call (unreadable n) h = absurd (omega arith)

begun_first : (c : Call) (bs rest : List ℕ) (n : ℕ) → n < length bs → call_bytes c ≡ take (suc n) bs ++ rest → call_number c ≡ get_or bs 0 0
begun_first c bs rest n h e =
    sym (call_first c)
    ∙ (ap (λ r. get_or r 0 0) e
    ∙ (get_or_append_left (take (suc n) bs) rest 0 0 (omega (arith, length-take-le (suc n) bs (omega arith))) ∙ get_or-take (suc n) bs 0 0 (omega arith)))

-- a call begins with a row that is too short, filled up with zeros
zeros : (n : ℕ) → AllByRecursion is_byte (replicate n 0)
zeros zero = tt
zeros (suc n) = (omega arith, zeros n)

filled_first : (bs : List ℕ) (n : ℕ) → get_or (bs ++ replicate n 0) 0 0 ≡ get_or bs 0 0
filled_first [] zero = refl
filled_first [] (suc n) = refl
filled_first (b ∷ bs) n = refl

short_begins : (bs : List ℕ) → AllByRecursion is_byte bs → get_or bs 0 0 < 5 → length bs < call_size (get_or bs 0 0) → Begins bs
short_begins bs h k l =
    let n = call_size (get_or bs 0 0) - length bs in
    let f = filled_first bs n in
    let w =
    whole_back (bs ++ replicate n 0) (All-append is_byte bs (replicate n 0) h (zeros n)) (omega arith)
    (omega (arith, length-append bs (replicate n 0), length-replicate {A = ℕ} n 0) ∙ ap call_size (sym f))
    in
    (call_with (get_or (bs ++ replicate n 0) 0 0) (num4 (bs ++ replicate n 0) 1) (num4 (bs ++ replicate n 0) 5), replicate n 0, w.0, w.1)

long_begins : (bs : List ℕ) (n : ℕ) → AllByRecursion is_byte bs → get_or bs 0 0 < 5 → n ≡ call_size (get_or bs 0 0) → 0 < n → n ≤ length bs → Begins (take n bs)
long_begins bs n h k e z l =
    let f = get_or-take n bs 0 0 z in
    let w = whole_back (take n bs) (All-take is_byte n bs h) (omega arith) (length-take-le n bs l ∙ (e ∙ ap call_size (sym f))) in
    (call_with (get_or (take n bs) 0 0) (num4 (take n bs) 1) (num4 (take n bs) 5), [], w.0, w.1 ∙ sym (append-nil (take n bs)))

long_ends : (bs : List ℕ) (n : ℕ) → n ≡ call_size (get_or bs 0 0) → n < length bs → Begins (take (suc n) bs) → ⊥
long_ends bs n e l (c, rest, h, b) =
    let f = begun_first c bs rest n l b in
    omega (arith, ap length b, length-append (take (suc n) bs) rest, length-take-le (suc n) bs (omega arith), length-call c h, ap call_size f)

-- each way is right
abbrev Rightly : List ℕ → Call → Type 0
Rightly bs c = (call_number c < 5 → call_bytes c ≡ bs) × ((p : ℕ) → c ≡ unreadable p → FirstMisfit bs p)

no_call : (bs : List ℕ) (n : ℕ) → FirstMisfit bs n → Rightly bs (unreadable n)
unfolding call_number
no_call bs n m = (λ k. absurd (omega arith), λ p u. let s : n ≡ p = cc in subst (FirstMisfit bs) s m)

a_call : (bs : List ℕ) (c : Call) → call_number c < 5 → call_bytes c ≡ bs → Rightly bs c
unfolding call_number
a_call bs c k e = (λ h. e, λ p u. absurd (omega (arith, ap call_number u)))

begins_none : Begins []
unfolding call_number
begins_none = (born 0 0, call_bytes (born 0 0), omega arith, refl)

pub reads_rightly : ReadsRightly
reads_rightly bs h =
    elim (way bs) [
      | whole k l e ↦ let w = whole_back bs h k l in rw e (a_call bs (call_with (get_or bs 0 0) (num4 bs 1) (num4 bs 5)) w.0 w.1)
      | short k l e ↦
          let t = take_all (length bs) bs (omega arith) in
          rw e (no_call bs (length bs) (omega arith, rw t (short_begins bs h k l), λ p b. omega arith))
      | long k l e ↦
          let n = call_size (get_or bs 0 0) in
          rw e (no_call bs n (omega arith, long_begins bs n h k refl (positive (get_or bs 0 0)) (omega arith), long_ends bs n refl))
      | unknown k e ↦
          rw e (no_call bs 0 (omega arith, begins_none, λ p b. omega (arith, begun_first b.0 bs b.1 0 p b.3, b.2)))
    ]
