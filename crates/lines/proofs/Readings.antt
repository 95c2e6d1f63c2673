-- Reading a line piece by piece. Assumes nothing.
use Rattle.std.proofs.Common.{◌≡◌, ℕ, Bool, List, Some, None, Ok, Err, codes, Option, Result, IsErr, refl, ap, ◌∙◌, rules}
use Rattle.std.specs.Result.{result_ok}
use Rattle.lines.specs.Words.{Split, split_off}
use Rattle.lines.specs.Names.{name_in}
use Rattle.lines.specs.Grammar.{Parents, spouse_in, died_in, parents_in, joined_up, read_line}

pub none_from_err : {T E : Type 0} (r : Result T E) → IsErr r → result_ok r ≡ None
none_from_err (Ok x) h = absurd (search rules)
none_from_err (Err e) h = refl

-- the pieces that a line is cut into
pub read_pieces :
    (line : List ℕ) (s d p : Split) → s ≡ split_off (codes ", spouse of ") line → d ≡ split_off (codes ", died") s.front → p ≡ split_off (codes ", of ") d.front →
    joined_up (name_in p.front) (parents_in p.rest) (died_in d.rest) (spouse_in s.rest) ≡ read_line line
unfolding read_line
read_pieces line s d p e f g =
    let of : Split → Split = λ x. split_off (codes ", of ") x.front in
    let death : Split → Split = λ x. split_off (codes ", died") x.front in
    ap (λ (x : Split). joined_up (name_in x.front) (parents_in x.rest) (died_in d.rest) (spouse_in s.rest)) g
    ∙ (ap (λ (x : Split). joined_up (name_in (of x).front) (parents_in (of x).rest) (died_in x.rest) (spouse_in s.rest)) f
    ∙ ap (λ (x : Split). joined_up (name_in (of (death x)).front) (parents_in (of (death x)).rest) (died_in (death x).rest) (spouse_in x.rest)) e)

-- what they make
pub no_name : (n : Option (List ℕ)) (p : Option Parents) (d : Option Bool) (s : Option (Option (List ℕ))) → None ≡ n → None ≡ joined_up n p d s
no_name n p d s e = ap (λ (x : Option (List ℕ)). joined_up x p d s) e

pub no_parents : (m : List ℕ) (n : Option (List ℕ)) (p : Option Parents) (d : Option Bool) (s : Option (Option (List ℕ))) → Some m ≡ n → None ≡ p → None ≡ joined_up n p d s
no_parents m n p d s e f = (λ i. joined_up (e i) (f i) d s)

pub no_death :
    (m : List ℕ) (q : Parents) (n : Option (List ℕ)) (p : Option Parents) (d : Option Bool) (s : Option (Option (List ℕ))) → Some m ≡ n → Some q ≡ p → None ≡ d →
    None ≡ joined_up n p d s
no_death m q n p d s e f g = (λ i. joined_up (e i) (f i) (g i) s)

pub no_spouse :
    (m : List ℕ) (q : Parents) (b : Bool) (n : Option (List ℕ)) (p : Option Parents) (d : Option Bool) (s : Option (Option (List ℕ))) → Some m ≡ n → Some q ≡ p → Some b ≡ d →
    None ≡ s → None ≡ joined_up n p d s
no_spouse m q b n p d s e f g h = (λ i. joined_up (e i) (f i) (g i) (h i))

pub all_there :
    (m : List ℕ) (q : Parents) (b : Bool) (t : Option (List ℕ)) (n : Option (List ℕ)) (p : Option Parents) (d : Option Bool) (s : Option (Option (List ℕ))) →
    Some m ≡ n → Some q ≡ p → Some b ≡ d → Some t ≡ s →
    Some (record { name = m; mother = q.mother; father = q.father; died = b; spouse = t }) ≡ joined_up n p d s
all_there m q b t n p d s e f g h = (λ i. joined_up (e i) (f i) (g i) (h i))
