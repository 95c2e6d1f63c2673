use Rattle.std.proofs.Common.{◌*◌, [], ◌++◌, length, sym, ap, ◌∙◌}
use Rattle.std.proofs.lemmas.List.{append-nil}
use Rattle.law.specs.Family.{known}
use Rattle.theory.specs.Living.{alive}
use Rattle.succession.specs.Starts.{start_row}
use Rattle.succession.proofs.Starts.{couple_row}
use Rattle.succession.proofs.couple_starts.Goals as goal

pub returns-clause-value : goal.returns-clause-value
returns-clause-value c = λ n f work rest e m d.
    let by = c.args.by in
    let each = by * c.living_lines.result in
    let k = c.living_lines.ensures.value n (length f) f (alive f) work rest e m d in
    let mother = c.start_of.ensures.value n f work rest e m in
    let father = c.start_of-2.ensures.value n f work rest e d in
    (λ i. mother i ++ (father i ++ [])) ∙ ap (λ r. start_row f each (known c.args.two.mother) ++ r) (append-nil (start_row f each (known c.args.two.father)))
    ∙ sym (couple_row f c.args.two.mother c.args.two.father by each (ap (λ j. by * j) k))
