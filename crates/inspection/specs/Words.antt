-- What is to hold of the words of a register, part by part. Assumes nothing: these are definitions.
use Rattle.std.specs.Prelude.{◌≡◌, ℕ, ◌+◌, ◌*◌, ◌<◌, ◌≤◌, Bool, true, ◌&&◌, List, length, ◌==◌, nat_le, nat_lt, slice_index}
use Rattle.law.specs.Family.{Family, person, children}
use Rattle.children.specs.Links.{first_of, last_of, behind}
use Rattle.people.specs.Layout.{limit_in, count_in, family_in, person_fits}
use Rattle.living.specs.Marks.{supported}

-- a person's words: who lives is told by 0 or 1, and parents and spouse are such as the person may have
abbrev pub row_fits : List ℕ → ℕ → Bool
row_fits ws p = nat_le (slice_index ws (2 + 4 * p + 2)) 1 && person_fits (family_in ws) p

abbrev pub RowsFit : List ℕ → Type 0
RowsFit ws = (p : ℕ) → p < count_in ws → row_fits ws p ≡ true

-- all words from one place up to another are 0
abbrev pub Zeros : List ℕ → ℕ → ℕ → Type 0
Zeros ws from end = (i : ℕ) → from ≤ i → i < end → slice_index ws i ≡ 0

-- where the links of a person begin
abbrev pub links_at : List ℕ → ℕ → ℕ
links_at ws p = 2 + 4 * limit_in ws + 4 * p

-- a person's links are those to the children whom the persons' words tell of
abbrev pub link_fits : List ℕ → ℕ → Bool
link_fits ws p =
    (slice_index ws (links_at ws p) == first_of (children (family_in ws) p) && slice_index ws (links_at ws p + 1) == last_of (children (family_in ws) p))
    && (slice_index ws (links_at ws p + 2) == behind (family_in ws) (person (family_in ws) p).mother p
    && slice_index ws (links_at ws p + 3) == behind (family_in ws) (person (family_in ws) p).father p)

abbrev pub LinksFit : List ℕ → Type 0
LinksFit ws = (p : ℕ) → p < count_in ws → link_fits ws p ≡ true

-- somebody is in the set exactly if they are there, and live or have a child in it
abbrev pub Marked : Family → (ℕ → Bool) → Type 0
Marked f s = (p : ℕ) → p < 4096 → s p ≡ (nat_lt p (length f) && supported f s p)

-- all words of persons, of links, and to work in; those of nobody are 0
pub record TablesFit (ws : List ℕ) : Type 0 where
  pub rows : RowsFit ws
  pub no_rows : Zeros ws (2 + 4 * count_in ws) (2 + 4 * limit_in ws)
  pub links : LinksFit ws
  pub no_links : Zeros ws (2 + 4 * limit_in ws + 4 * count_in ws) (2 + 8 * limit_in ws)
  pub work : Zeros ws (130 + 8 * limit_in ws) (24576 + 16 * limit_in ws)
