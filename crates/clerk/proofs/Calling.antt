-- The calls that build a family, one after the other. Assumes nothing.
use Rattle.std.proofs.Common.{◌≡◌, ℕ, suc, ◌+◌, ◌-◌, ◌<◌, ◌≤◌, true, false, ltb, leb, List, [], ◌∷◌, ◌++◌, length, take, drop, Some, None, sym, refl, ap, ◌∙◌, arith}
use Rattle.std.proofs.lemmas.List.{drop_more, drop_all}
use Rattle.std.proofs.lemmas.Bool.{cond-true, cond-false, le-leb, lt-ltb, le-ltb}
use Rattle.std.specs.List.{AllByRecursion}
use Rattle.rows.specs.Written.{written}
use Rattle.law.specs.Family.{person, nobody, Family}
use Rattle.law.specs.Calls.{Call, born, wed, dies, call_number}
use Rattle.law.specs.Promise.{Memory, left_by, all_calls}
use Rattle.wire.specs.Bytes.{le4, row_bytes, laid_over, laid_length, call_values, call_bytes, read, call_of, is_word}
use Rattle.wire.specs.declared.Request.{Request}
use Rattle.wire.specs.declared.Request.TheVariants.{Born, Wed, Parted, Dies, EstateOf}
use Rattle.wire.proofs.ReadBack.{calls_read_back}
use Rattle.report.proofs.Replies.{front_written}
use Rattle.service.specs.Desks.{desk, next}
use Rattle.text.specs.Building.{births, weddings, deaths}

-- A CALL IN NINE BYTES.
call_short : (q : Request) → length (call_bytes (call_of q)) ≤ 9
unfolding call_bytes row_bytes le4
call_short (Born m f) = omega arith
call_short (Wed a b) = omega arith
call_short (Parted a) = omega arith
call_short (Dies a) = omega arith
call_short (EstateOf a) = omega arith

call_known : (q : Request) → call_number (call_of q) < 5
unfolding call_number
call_known (Born m f) = omega arith
call_known (Wed a b) = omega arith
call_known (Parted a) = omega arith
call_known (Dies a) = omega arith
call_known (EstateOf a) = omega arith

pub call_fits : (q : Request) (out : List ℕ) → length out ≡ 9 → None ≡ laid_length (call_bytes (call_of q)) out → ⊥
call_fits q out n e =
    let short = call_short q in
    let f = e ∙ cond-true (leb (length (call_bytes (call_of q))) (length out)) (Some (length (call_bytes (call_of q)))) None (le-leb (length (call_bytes (call_of q))) (length out) (omega arith)) in
    grind arith

some_same : (m n : ℕ) → Some m ≡ Some n → m ≡ n
some_same m n e = cc

pub call_back : (q : Request) (out later : List ℕ) (size k : ℕ) → length out ≡ 9 → AllByRecursion is_word (call_values (call_of q)) → later ≡ laid_over (call_bytes (call_of q)) out →
    Some size ≡ laid_length (call_bytes (call_of q)) out → k ≡ size → read (take k later) ≡ call_of q
call_back q out later size k n fit e s h =
    let bs = call_bytes (call_of q) in
    let short = call_short q in
    let room : leb (length bs) (length out) ≡ true = le-leb (length bs) (length out) (omega arith) in
    let long : size ≡ length bs = some_same size (length bs) (s ∙ cond-true (leb (length bs) (length out)) (Some (length bs)) None room) in
    let laid : later ≡ written 0 bs out = e ∙ cond-true (leb (length bs) (length out)) (written 0 bs out) out room in
    ap read (ap (take k) laid ∙ front_written bs out k (omega arith) (omega arith)) ∙ (calls_read_back (call_of q) (call_known q) fit).0

pub call_long : (q : Request) (out : List ℕ) (size : ℕ) → length out ≡ 9 → Some size ≡ laid_length (call_bytes (call_of q)) out → size ≤ 9
call_long q out size n s =
    let bs = call_bytes (call_of q) in
    let short = call_short q in
    let room : leb (length bs) (length out) ≡ true = le-leb (length bs) (length out) (omega arith) in
    let long : size ≡ length bs = some_same size (length bs) (s ∙ cond-true (leb (length bs) (length out)) (Some (length bs)) None room) in
    omega arith

-- ONE CALL MORE.
next_call : (m later : Memory) (c : Call) (cs : List Call) → later ≡ next all_calls m c → left_by (desk all_calls []) later cs ≡ left_by (desk all_calls []) m (c ∷ cs)
unfolding left_by
next_call m later c cs e = ap (λ (u : Memory). left_by (desk all_calls []) u cs) e

module _ (f : Family) (i : ℕ) (m later P : Memory) where
  pub births_more : i < length f → later ≡ next all_calls m (born (person f i).mother (person f i).father) → left_by (desk all_calls []) m (births (drop i f)) ≡ P → left_by (desk all_calls []) later (births (drop (i + 1) f)) ≡ P
  births_more h e inv =
      next_call m later (born (person f i).mother (person f i).father) (births (drop (i + 1) f)) e
      ∙ (ap (λ (g : Family). left_by (desk all_calls []) m (births g)) (sym (drop_more f i nobody h)) ∙ inv)

  more_is : i + 1 ≡ suc i
  more_is = omega arith

  pub weddings_more : i < length f → i + 1 < (person f i).spouse → later ≡ next all_calls m (wed i ((person f i).spouse - 1)) → left_by (desk all_calls []) m (weddings i (drop i f)) ≡ P →
      left_by (desk all_calls []) later (weddings (i + 1) (drop (i + 1) f)) ≡ P
  weddings_more h l e inv =
      let rest = weddings (suc i) (drop (i + 1) f) in
      let c = wed i ((person f i).spouse - 1) in
      ap (λ (k : ℕ). left_by (desk all_calls []) later (weddings k (drop (i + 1) f))) more_is
      ∙ (next_call m later c rest e
      ∙ (ap (left_by (desk all_calls []) m) (sym (cond-true (ltb (suc i) (person f i).spouse) (c ∷ rest) rest (lt-ltb (suc i) (person f i).spouse (omega arith))))
      ∙ (ap (λ (g : Family). left_by (desk all_calls []) m (weddings i g)) (sym (drop_more f i nobody h)) ∙ inv)))

  pub weddings_none : i < length f → (person f i).spouse ≤ i + 1 → later ≡ m → left_by (desk all_calls []) m (weddings i (drop i f)) ≡ P →
      left_by (desk all_calls []) later (weddings (i + 1) (drop (i + 1) f)) ≡ P
  weddings_none h l e inv =
      let rest = weddings (suc i) (drop (i + 1) f) in
      let c = wed i ((person f i).spouse - 1) in
      (λ k. left_by (desk all_calls []) (e k) (weddings (more_is k) (drop (i + 1) f)))
      ∙ (ap (left_by (desk all_calls []) m) (sym (cond-false (ltb (suc i) (person f i).spouse) (c ∷ rest) rest (le-ltb (suc i) (person f i).spouse (omega arith))))
      ∙ (ap (λ (g : Family). left_by (desk all_calls []) m (weddings i g)) (sym (drop_more f i nobody h)) ∙ inv))

  pub deaths_more : i < length f → (person f i).lives ≡ false → later ≡ next all_calls m (dies i) → left_by (desk all_calls []) m (deaths i (drop i f)) ≡ P →
      left_by (desk all_calls []) later (deaths (i + 1) (drop (i + 1) f)) ≡ P
  deaths_more h l e inv =
      let rest = deaths (suc i) (drop (i + 1) f) in
      ap (λ (k : ℕ). left_by (desk all_calls []) later (deaths k (drop (i + 1) f))) more_is
      ∙ (next_call m later (dies i) rest e
      ∙ (ap (left_by (desk all_calls []) m) (sym (cond-false (person f i).lives rest (dies i ∷ rest) l))
      ∙ (ap (λ (g : Family). left_by (desk all_calls []) m (deaths i g)) (sym (drop_more f i nobody h)) ∙ inv)))

  pub deaths_none : i < length f → (person f i).lives ≡ true → later ≡ m → left_by (desk all_calls []) m (deaths i (drop i f)) ≡ P → left_by (desk all_calls []) later (deaths (i + 1) (drop (i + 1) f)) ≡ P
  deaths_none h l e inv =
      let rest = deaths (suc i) (drop (i + 1) f) in
      (λ k. left_by (desk all_calls []) (e k) (deaths (more_is k) (drop (i + 1) f)))
      ∙ (ap (left_by (desk all_calls []) m) (sym (cond-true (person f i).lives rest (dies i ∷ rest) l)) ∙ (ap (λ (g : Family). left_by (desk all_calls []) m (deaths i g)) (sym (drop_more f i nobody h)) ∙ inv))

module _ (f : Family) (i : ℕ) (m P : Memory) (h : length f ≤ i) where
  pub births_all : left_by (desk all_calls []) m (births (drop i f)) ≡ P → m ≡ P
  unfolding left_by
  births_all inv = sym (ap (λ (g : Family). left_by (desk all_calls []) m (births g)) (drop_all i f h)) ∙ inv

  pub weddings_all : left_by (desk all_calls []) m (weddings i (drop i f)) ≡ P → m ≡ P
  unfolding left_by
  weddings_all inv = sym (ap (λ (g : Family). left_by (desk all_calls []) m (weddings i g)) (drop_all i f h)) ∙ inv

  pub deaths_all : left_by (desk all_calls []) m (deaths i (drop i f)) ≡ P → m ≡ P
  unfolding left_by
  deaths_all inv = sym (ap (λ (g : Family). left_by (desk all_calls []) m (deaths i g)) (drop_all i f h)) ∙ inv

-- all calls one after the other
pub left_then : (m : Memory) (cs ds : List Call) → left_by (desk all_calls []) m (cs ++ ds) ≡ left_by (desk all_calls []) (left_by (desk all_calls []) m cs) ds
unfolding left_by
left_then m [] ds = refl
left_then m (c ∷ cs) ds = left_then (next all_calls m c) cs ds
