-- The number of whoever has a name. Assumes nothing.
use Rattle.std.proofs.Common.{rules, tests, ap, ◌∙◌}
use Rattle.std.proofs.lemmas.Iterator.{YieldsList-from_slice}
use Rattle.std.proofs.lemmas.Iterator.Search.{position_from_yields_List}
use Rattle.std.specs.Str.{bytes_eq}
use Rattle.lines.specs.declared.Entry.{Entry}
use Rattle.text.specs.Reading.{place_of}
use Rattle.text.proofs.Places.{place_by_position, names_said}
use Rattle.text.proofs.place_of.Goals as goal

pub returns-clause-value : goal.returns-clause-value
returns-clause-value c =
    let es = c.args.entries.now in
    let n = c.args.name.now in
    position_from_yields_List (λ (e : Entry). bytes_eq e.name.now n) _ _ c.position.result c.position.ensures.ran (YieldsList-from_slice es cc) (λ x b q k. search (rules, tests))
    ∙ (place_by_position (λ (e : Entry). e.name.now) n es ∙ ap (place_of n) (names_said es))
