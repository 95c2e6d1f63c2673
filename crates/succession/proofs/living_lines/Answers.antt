use Rattle.std.proofs.Common.{◌+◌, sym, ◌∙◌, arith}
use Rattle.std.specs.Int.{from_bool}
use Rattle.succession.proofs.Lines.{at_most_one, length-forebears}
use Rattle.succession.proofs.living_lines.Goals as goal

pub returns : goal.returns
returns c =
    let one = c.from.ensures in
    let two = c.from-2.ensures in
    record {
      few = omega (arith, one, two, at_most_one c.has_line.result, at_most_one c.has_line-2.result);
      value = λ n k f s work rest e m d.
          (λ i. one i + two i) ∙ (λ i. from_bool (c.has_line.ensures.value n k f s work rest e m i) + from_bool (c.has_line-2.ensures.value n k f s work rest e d i))
          ∙ sym (length-forebears s c.args.two.mother c.args.two.father);
    }
