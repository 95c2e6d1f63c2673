use Rattle.std.proofs.Common.{ℕ, List, ◌++◌, [], get_or, take, codes, rules, refl, sym, ap, ◌∙◌}
use Rattle.std.proofs.lemmas.List.{append_assoc, take_all, take_more, flat_map_more}
use Rattle.std.proofs.Output.{has_written_append, has_written_of_eq}
use Rattle.reason_lines.specs.Lines.{names_of, person_text, line_text, more_persons}
use Rattle.reason_lines.proofs.LineDisplay.fmt.Goals as goal

pub loop-who-preserved : goal.loop-who-preserved
loop-who-preserved g c = λ p.
    let ns = names_of c.args.self.now.names.now in
    has_written_of_eq _ _ _ _ _
    (flat_map_more (λ q. codes ", " ++ person_text ns q) [] (take c.loop-who.who-index c.in-Some.more.now) (get_or c.in-Some.more.now c.loop-who.who-index 0)
    ∙ ap (more_persons ns) (sym (take_more c.in-Some.more.now c.loop-who.who-index 0 c.loop-who-test.true)))
    (has_written_append _ _ _ _ _ _ (c.loop-who.invariant p) (search rules))

pub returns-clause-writes : goal.returns-clause-writes
returns-clause-writes g c = λ p _.
    let first = c.in_ok-write.ensures.writes p refl in
    let ns = names_of c.args.self.now.names.now in
    has_written_of_eq _ _ _ _ _
    (append_assoc (codes " by ") (person_text ns c.in-Some.first.now) (more_persons ns (take c.loop-who.who-index c.in-Some.more.now))
    ∙ ap (λ (ps : List ℕ). codes " by " ++ (person_text ns c.in-Some.first.now ++ more_persons ns ps)) (take_all c.loop-who.who-index c.in-Some.more.now c.loop-who-test.false)
    ∙ ap (line_text ns) (sym c.in-Some.ensures.cases.0))
    (has_written_append _ _ _ _ _ _ first (c.loop-who.invariant first.plain))
