-- The text of a line. Assumes nothing.
use Rattle.std.proofs.Common.{rules, ◌≡◌, ℕ, List, ◌++◌, codes, Option, sym, refl, ap, ◌∙◌, Bor}
use Rattle.std.proofs.Output.{has_written_append, has_written_of_eq}
use Rattle.std.specs.Option.{option_map}
use Rattle.std.proofs.lemmas.List.{append_assoc}
use Rattle.lines.specs.Grammar.{died_text, spouse_text, parents_text}
use Rattle.lines.proofs.EntryDisplay.fmt.Goals.{then-died, else-died}
use Rattle.lines.proofs.EntryDisplay.fmt.Goals as goal

pub returns-in-Some-clause-writes : goal.returns-in-Some-clause-writes
returns-in-Some-clause-writes g c = λ plain ok.
    let e = c.args.self.now in
    let n = e.name.now in
    let p = parents_text (option_map (λ x. x.now) e.mother) (option_map (λ x. x.now) e.father) in
    let s = codes ", spouse of " ++ c.in-Some.spouse.now in
    let front = c.in_ok-write.ensures.writes plain refl in
    let death : c.if-died.death.now ≡ died_text e.died = elim c.if-died.branch [ then-died w ↦ search rules | else-died w ↦ search rules ] in
    let spouse : s ≡ spouse_text (option_map (λ x. x.now) e.spouse) = sym (ap (λ (o : Option (Bor (List ℕ))). spouse_text (option_map (λ x. x.now) o)) c.in-Some.is) in
    let whole : (n ++ (p ++ c.if-died.death.now)) ++ s ≡ n ++ (p ++ (c.if-died.death.now ++ s)) = simp append_assoc in
    has_written_of_eq _ _ _ _ _ (whole ∙ (λ i. n ++ (p ++ (death i ++ spouse i)))) (has_written_append _ _ _ _ _ _ front (c.write-in-Some.ensures.writes front.plain ok))
