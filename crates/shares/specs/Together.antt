-- What the shares of an estate come to together. Each is a statement: a type whose proof is owed wherever a contract names it. Assumes nothing.
use Rattle.std.specs.Prelude.{◌≡◌, ℕ, ◌*◌, ◌/◌, ◌<◌, true, List, sum_by}
use Rattle.law.specs.Family.{Part}
use Rattle.law.specs.Calls.{Share, common_multiple, divides_all, all_pieces, as_parts}
use Rattle.theory.specs.Shares.{shares_of}
use Rattle.shares.specs.Parts.{dividable}

-- all shares together, if the estate is n pieces
abbrev pub all_shares : ℕ → List Share → ℕ
all_shares n ss = sum_by (λ s. n / s.down * s.up) ss

-- Shares that are as the parts are come to as many pieces as the parts, by any number that all parts divide.
unfoldable pub SharesTogether : Type 0
SharesTogether =
    (ps : List Part) (n : ℕ) (ss : List Share) → 0 < n → divides_all n ps ≡ true → as_parts ps ss → all_shares n ss ≡ all_pieces n ps

-- The shares of a row that can be divided are as its parts are; and where all parts are the estate, all shares together are one.
unfoldable pub SettledRight : Type 0
SettledRight =
    (ps : List Part) → dividable ps ≡ true →
    as_parts ps (shares_of ps) × (all_pieces (common_multiple ps 1) ps ≡ common_multiple ps 1 → all_shares (common_multiple ps 1) (shares_of ps) ≡ common_multiple ps 1)
