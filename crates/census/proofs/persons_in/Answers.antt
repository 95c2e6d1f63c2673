use Rattle.std.proofs.Common.{rules, ◌≡◌, ℕ, ◌+◌, ◌*◌, List, IfOk, map, vec_items, sym, refl, ◌∙◌, subst, arith}
use Rattle.std.specs.List.{range_with_len}
use Rattle.std.proofs.lemmas.Result.{IfOk-weaker}
use Rattle.std.proofs.lemmas.Iterator.{YieldsList-from_range, YieldsList-from_map_by}
use Rattle.std.proofs.lemmas.Iterator.Consumers.{map_from_collect}
use Rattle.theory.specs.Families.{WellFormed}
use Rattle.people.specs.Layout.{person_at, count_in, family_in}
use Rattle.people.specs.Persons.{law_person}
use Rattle.people.proofs.Valids.{valid_well_formed}
use Rattle.ways.specs.Rows.{family_of}
use Rattle.census.proofs.persons_in.Goals as goal

-- all persons that are counted are the family that the words hold
all_read : (ws : List ℕ) → map (λ p. person_at ws (2 + 4 * p)) (range_with_len 0 (count_in ws)) ≡ family_in ws
unfolding family_in
all_read ws = refl

pub returns : goal.returns
returns c =
    let ws = c.args.memory.now in
    let same : IfOk c.collect.result (λ v. family_of (vec_items v) ≡ family_in ws) =
    IfOk-weaker c.collect.result _ _ (λ v e. e ∙ all_read ws)
    (map_from_collect c.collect.result c.collect.ensures.ran
    (YieldsList-from_map_by {s = c.map.result} _ law_person (λ p. person_at ws (2 + 4 * p)) (YieldsList-from_range 0 (count_in ws) (count_in ws) c.map.ensures.source (omega arith)) c.map.ensures.closure
    (λ x r q k. search rules))) in
    record {
      value = same;
      formed = IfOk-weaker c.collect.result _ _ (λ v e valid. subst WellFormed (sym e) (valid_well_formed (family_in ws) valid)) same;
    }
