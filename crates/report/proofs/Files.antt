-- The calls of a file, one after the other, and the lines that answer them. Assumes nothing.
use Rattle.std.proofs.Common.{◌≡◌, ℕ, zero, suc, ◌<◌, ◌≤◌, Bool, ◌&&◌, ltb, leb, List, [], ◌∷◌, ◌++◌, length, get_or, take, drop, sym, refl, ap, ◌∙◌, arith}
use Rattle.std.proofs.lemmas.List.{append-nil, append_assoc, length-drop, drop_all}
use Rattle.std.proofs.lemmas.Bool.{leb-true, and_parts, cond_both}
use Rattle.law.specs.Promise.{Memory, Desk, left_by}
use Rattle.wire.specs.Bytes.{call_size, read}
use Rattle.service.specs.Desks.{desk}
use Rattle.report.specs.Lines.{row_size, calls_in, file_calls, answer_text, printed, file_limits, file_lines}

-- the next call has some of the bytes that are left
size_within : (bs : List ℕ) → row_size bs ≤ length bs
size_within bs =
    let k = call_size (get_or bs 0 0) in
    cond_both (ltb (get_or bs 0 0) 5 && leb k (length bs)) k (length bs) (λ n. n ≤ length bs)
    (λ e. leb-true k (length bs) (and_parts (ltb (get_or bs 0 0) 5) (leb k (length bs)) e).1) (λ _. omega arith)

size_some : (bs : List ℕ) → 0 < length bs → 0 < row_size bs
size_some bs h =
    cond_both (ltb (get_or bs 0 0) 5 && leb (call_size (get_or bs 0 0)) (length bs)) (call_size (get_or bs 0 0)) (length bs) (λ n. 0 < n)
    (λ _. cond_both (ltb (get_or bs 0 0) 2) 9 5 (λ n. 0 < n) (λ _. omega arith) (λ _. omega arith)) (λ _. h)

-- a bound that suffices does not matter
same_calls : (m n : ℕ) (bs : List ℕ) → length bs ≤ m → length bs ≤ n → calls_in m bs ≡ calls_in n bs
unfolding calls_in
same_calls m n [] h g = refl
same_calls zero n (b ∷ bs) h g = absurd (omega arith)
same_calls (suc m) zero (b ∷ bs) h g = absurd (omega arith)
same_calls (suc m) (suc n) (b ∷ bs) h g =
    let k = row_size (b ∷ bs) in
    let some : 0 < k = size_some (b ∷ bs) (omega arith) in
    let rest = length-drop k (b ∷ bs) in
    ap (λ cs. read (take k (b ∷ bs)) ∷ cs) (same_calls m n (drop k (b ∷ bs)) (omega arith) (omega arith))

pub calls_more : (bs : List ℕ) → 0 < length bs → file_calls bs ≡ read (take (row_size bs) bs) ∷ file_calls (drop (row_size bs) bs)
unfolding calls_in
calls_more [] h = absurd (omega arith)
calls_more (b ∷ bs) h =
    let k = row_size (b ∷ bs) in
    let some : 0 < k = size_some (b ∷ bs) h in
    let rest = length-drop k (b ∷ bs) in
    ap (λ cs. read (take k (b ∷ bs)) ∷ cs) (same_calls (length bs) (length (drop k (b ∷ bs))) (drop k (b ∷ bs)) (omega arith) (omega arith))

pub calls_none : (bs : List ℕ) → length bs ≤ 0 → file_calls bs ≡ []
unfolding calls_in
calls_none [] h = refl
calls_none (b ∷ bs) h = absurd (omega arith)

-- What was printed and left so far, from memory m0 and a text before: with what the rest of the file adds, it is what the whole file makes.
pub record Sofar (d : Desk) (before : List ℕ) (m0 : Memory) (input text : List ℕ) (m : Memory) (rest : List ℕ) : Type 0 where
  pub lines : text ++ printed d m (file_calls rest) ≡ before ++ printed d m0 (file_calls input)
  pub left : left_by d m (file_calls rest) ≡ left_by d m0 (file_calls input)

module _ (d : Desk) (before : List ℕ) (m0 : Memory) (input : List ℕ) where
  pub none_yet : Sofar d before m0 input before m0 input
  none_yet = record { lines = refl; left = refl }

  -- the next call of the file
  pub one_more :
      (text later : List ℕ) (m next : Memory) (bs row rest : List ℕ) → Sofar d before m0 input text m bs → file_calls bs ≡ read row ∷ file_calls rest →
      later ≡ text ++ answer_text (d.says m (read row)) → next ≡ d.next m (read row) → Sofar d before m0 input later next rest
  unfolding printed left_by
  one_more text later m next bs row rest old cs t n =
      let c = read row in
      record {
        lines =
            (λ i. t i ++ printed d (n i) (file_calls rest))
            ∙ (append_assoc text (answer_text (d.says m c)) (printed d (d.next m c) (file_calls rest)) ∙ (ap (λ l. text ++ printed d m l) (sym cs) ∙ old.lines));
        left = ap (λ u. left_by d u (file_calls rest)) n ∙ (ap (left_by d m) (sym cs) ∙ old.left);
      }

  -- the end of the file
  pub no_more : (text : List ℕ) (m : Memory) (rest : List ℕ) → Sofar d before m0 input text m rest → file_calls rest ≡ []
      → (text ≡ before ++ printed d m0 (file_calls input)) × (m ≡ left_by d m0 (file_calls input))
  unfolding printed left_by
  no_more text m rest old none = (sym (append-nil text) ∙ (ap (λ cs. text ++ printed d m cs) (sym none) ∙ old.lines), ap (left_by d m) (sym none) ∙ old.left)

-- a register that was opened in just as many words as it asks for
pub opened_lines : (can : ℕ → Bool) (ws input : List ℕ) (m : Memory) → length ws ≡ 25600 → m ≡ (desk can (drop 25600 ws)).opened (file_limits can)
    → printed (desk can []) m (file_calls input) ≡ file_lines can input
opened_lines can ws input m long e =
    ap (λ u. printed (desk can []) u (file_calls input)) (e ∙ ap (λ rest. (desk can rest).opened (file_limits can)) (drop_all 25600 ws (omega arith)))
