-- A call's bytes, where there is room. Assumes nothing.
use Rattle.std.proofs.Common.{◌≡◌, length, [], refl, ap, ◌∙◌, arith}
use Rattle.std.proofs.lemmas.Bool.{le-leb, lt-leb}
use denote.Enum.Declared.{tag_of}
use Rattle.wire.specs.contracts.Kind.{the_type}
use Rattle.wire.specs.declared.Kind.{Kind}
use Rattle.wire.specs.declared.Kind.TheVariants.{Born, Wed, Parted, Dies, EstateOf}
use Rattle.rows.specs.Written.{written}
use Rattle.wire.specs.Bytes.{row_bytes, kind_number}
use Rattle.wire.proofs.Bytes.{length-row}
use Rattle.wire.proofs.lay_call.Goals as goal

pub returns-then-out-length : goal.returns-then-out-length
returns-then-out-length c =
    let bs = row_bytes (kind_number c.args.kind) c.args.values.now [] in
    let e = lt-leb (length bs) (length c.args.out.now) (omega (arith, length-row (kind_number c.args.kind) c.args.values.now)) in
    record { left = rw e; value = rw e }

-- the number of a kind as code has it
number_of : (k : Kind) → tag_of the_type k ≡ kind_number k
number_of Born = refl
number_of Wed = refl
number_of Parted = refl
number_of Dies = refl
number_of EstateOf = refl

pub returns : goal.returns
returns c =
    let bs = row_bytes (kind_number c.args.kind) c.args.values.now [] in
    let l = length-row (kind_number c.args.kind) c.args.values.now in
    let e = le-leb (length bs) (length c.args.out.now) (omega (arith, l)) in
    record { left = rw e (c.put_row.ensures.left ∙ ap (λ k. written 0 (row_bytes k c.args.values.now []) c.args.out.now) (number_of c.args.kind)); value = rw (e, l) }
