-- The lines of an estate with no heir, and with some, whatever an heir is called. Assumes nothing.
use Rattle.std.proofs.Common.{◌≡◌, ℕ, zero, suc, ◌≢◌, List, ◌++◌, Some, codes, Option, sym, refl, ap, ◌∙◌, arith}
use Rattle.std.specs.List.{flat_map}
use Rattle.law.specs.Calls.{Share, Answer, shares}
use Rattle.wire.specs.Bytes.{shares_from, read_shares}
use Rattle.report.specs.Lines.{heir_line, heirs_lines, text_by}

no_heirs : (named : ℕ → List ℕ) (bs : List ℕ) (n : ℕ) → n ≡ 0 → codes "no heirs\n" ≡ heirs_lines named (shares_from bs 5 n)
unfolding shares_from
no_heirs named bs zero e = refl
no_heirs named bs (suc n) e = absurd (omega arith)

some_heirs : (named : ℕ → List ℕ) (bs : List ℕ) (n : ℕ) → n ≢ 0 → flat_map (heir_line named) (shares_from bs 5 n) ≡ heirs_lines named (shares_from bs 5 n)
unfolding shares_from
some_heirs named bs zero e = absurd (omega arith)
some_heirs named bs (suc n) e = refl

module _ (named : ℕ → List ℕ) (bs : List ℕ) (n : ℕ) (a : Option Answer) (told : Some (shares (shares_from bs 5 n)) ≡ a) where
  pub text_none : n ≡ 0 → codes "no heirs\n" ≡ text_by named a
  text_none e = no_heirs named bs n e ∙ ap (text_by named) told

  pub text_some : (ss : List Share) → ss ≡ read_shares a → n ≢ 0 → flat_map (heir_line named) ss ≡ text_by named a
  text_some ss e some = ap (flat_map (heir_line named)) (e ∙ sym (ap read_shares told)) ∙ (some_heirs named bs n some ∙ ap (text_by named) told)
