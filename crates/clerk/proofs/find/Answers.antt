-- The number of whoever has a name. Assumes nothing.
use Rattle.std.proofs.Common.{rules, tests, ◌∙◌}
use Rattle.std.proofs.lemmas.Iterator.{YieldsList-from_slice}
use Rattle.std.proofs.lemmas.Iterator.Search.{position_from_yields_List}
use Rattle.std.specs.Str.{bytes_eq}
use Rattle.text.specs.declared.Member.{Member}
use Rattle.text.proofs.Places.{place_by_position}
use Rattle.clerk.proofs.find.Goals as goal

pub returns-clause-value : goal.returns-clause-value
returns-clause-value c =
    let ms = c.args.members.now in
    let n = c.args.name.now in
    position_from_yields_List (λ (m : Member). bytes_eq m.name.now n) _ _ c.position.result c.position.ensures.ran (YieldsList-from_slice ms cc) (λ x b q k. search (rules, tests))
    ∙ place_by_position (λ (m : Member). m.name.now) n ms
