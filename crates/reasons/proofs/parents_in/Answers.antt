use Rattle.std.proofs.Common.{rules, [], ◌∷◌, ◌++◌, filter, ap, ◌∙◌}
use Rattle.std.proofs.lemmas.Result.{IfOk-weaker}
use Rattle.std.proofs.lemmas.Iterator.{YieldsList-from_slice, items_from_collect}
use Rattle.std.proofs.lemmas.Iterator.Consumers.{YieldsList-from_filter, YieldsList-from_filter_map, YieldsList-at}
use Rattle.law.specs.Family.{Person, known}
use Rattle.ways.specs.Rows.{in_row}
use Rattle.reasons.proofs.KnownPersons.{linked, linked_is, known_both}
use Rattle.reasons.proofs.parents_in.Goals as goal

pub returns : goal.returns
returns c =
    let s = in_row c.args.set.now in
    let two = c.person_at-mother.result in
    record {
      value =
          IfOk-weaker c.collect.result _ _
          (λ v e. e ∙ ap (filter s) (known_both two.mother two.father) ∙ ap (λ (q : Person). filter s (known q.mother ++ known q.father)) c.person_at-mother.ensures.value)
          (items_from_collect _ c.collect.ensures.ran
          (YieldsList-from_filter {s = c.filter.result} _ s
          (YieldsList-at c.filter.ensures.source
          (YieldsList-from_filter_map {s = c.filter_map.result} _ linked (YieldsList-at c.filter_map.ensures.source (YieldsList-from_slice (two.mother ∷ two.father ∷ []) c.iter.ensures.rest)) c.filter_map.ensures.closure (λ x r q k. search (rules, linked_is))))
          c.filter.ensures.closure (λ x r q k. search rules)));
    }
