use Rattle.std.proofs.Common.{◌≡◌, ℕ, ◌<◌, false, length, vec_items, Ok, Err, Result, IsErrAnd, sym, subst, arith}
use Rattle.std.proofs.lemmas.List.{length-map}
use Rattle.law.specs.Family.{Family, estate}
use Rattle.people.specs.Persons.{law_person}
use Rattle.shares.specs.Parts.{dividable}
use Rattle.ways.specs.Going.{ByLimit}
use Rattle.ways.specs.Rows.{family_of}
use Rattle.ways.specs.declared.WaysError.{WaysError}
use Rattle.ways.specs.declared.WaysError.TheVariants.{BeyondLimit, NoMemory}
use Rattle.reasons.specs.declared.Estate.{Estate}
use Rattle.reasons.specs.declared.Refusal.{Refusal}
use Rattle.reasons.specs.Estates.{refusal_of, RefusalRight, OutcomeRight}
use Rattle.reasons.proofs.KnownFamilies.{known_by}
use Rattle.reasons.proofs.divide.Goals as goal

-- a refusal by the limits, of an estate whose decedent is there
refused : (f : Family) (d : ℕ) (r : Result Estate Refusal) (e : WaysError) → IsErrAnd r (λ z. z ≡ refusal_of e) → d < length f → ByLimit (dividable (estate f d) ≡ false) e → OutcomeRight f d r
refused f d (Ok x) e h l p = absurd h
refused f d (Err z) e h l p = subst (RefusalRight f d) (sym h) (go e p)
  where
    go : (y : WaysError) → ByLimit (dividable (estate f d) ≡ false) y → RefusalRight f d (refusal_of y)
    go BeyondLimit q = (l, q)
    go NoMemory q = q

pub returns-then-decedent-family : goal.returns-then-decedent-family
returns-then-decedent-family c = record { outcome = λ rk s. let size = length-map c.args.family.now law_person in omega arith }

pub returns-in_err-estate : goal.returns-in_err-estate
returns-in_err-estate c =
    record {
      outcome = λ rk s.
          let k = known_by c.args.family.now c.args.decedent rk c.deref.result.now (vec_items c.in_ok-lives.lives) s (omega arith) c.deref.ensures.value c.in_ok-lives.ensures.value in
          refused (family_of c.args.family.now) c.args.decedent c.from_residual-in_err-estate.result c.in_err-estate.field-0.0 c.from_residual-in_err-estate.ensures.1 k.there (c.in_err-estate.ensures.value rk k);
    }

pub returns : goal.returns
returns c =
    record {
      outcome = λ rk s.
          let k = known_by c.args.family.now c.args.decedent rk c.deref.result.now (vec_items c.in_ok-lives.lives) s (omega arith) c.deref.ensures.value c.in_ok-lives.ensures.value in
          (k.there, c.in_ok-estate.ensures.value rk k);
    }
