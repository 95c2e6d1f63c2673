use Rattle.std.proofs.Common.{ℕ, ◌*◌, ◌/◌, List, map, filter, eqb, sum, rules, sym, ap, ◌∙◌, arith, vec_items}
use Rattle.std.proofs.lemmas.Iterator.{YieldsList-from_map, YieldsList-from_slice}
use Rattle.std.proofs.lemmas.Iterator.Consumers.{YieldsList-from_filter, YieldsList-at}
use borrow.Author.Tests.{tests}
use Rattle.ways.specs.Ways.{counted}
use Rattle.ways.specs.Rows.{law_ways}
use Rattle.ways.proofs.Laws.{way_pieces_append}
use Rattle.reasons.specs.Estates.{lead_ways}
use Rattle.ways.specs.declared.Way.{Way}
use Rattle.why.proofs.Heirs.{Adds, adds_all, all_pieces}
use Rattle.why.proofs.pieces_of.Goals as goal

pub returns : goal.returns
returns c =
    let e = c.args.estate.now in
    let w = c.args.heir in
    let k : Way → ℕ = λ x. e.up * (e.whole / x.by) in
    let lead = map (counted 1) (lead_ways e.spouse) in
    let base = c.spouse_pieces-spouse.result in
    let added : Adds base (map k (filter (λ (x : Way). eqb x.who w) c.deref.result.now)) c.fold.result =
    adds_all base c.fold.result c.fold.ensures.ran
    (YieldsList-from_map _ k
    (YieldsList-at c.map.ensures.source
    (YieldsList-from_filter _ (λ (x : Way). eqb x.who w) (YieldsList-at c.filter.ensures.source (YieldsList-from_slice c.deref.result.now cc)) c.filter.ensures.closure (λ x r q h. search (rules, tests))))
    c.map.ensures.closure (λ x r q h. search rules))
    (λ a x b q h. search rules) in
    record {
      value = λ fits.
          let parts = way_pieces_append e.whole w lead (map (counted e.up) (law_ways (vec_items e.ways))) in
          let all =
          all_pieces e.whole w e.up (vec_items e.ways) ∙ ap (λ (ws : List Way). sum (map k (filter (λ (x : Way). eqb x.who w) ws))) (sym c.deref.ensures.value) in
          let start = c.spouse_pieces-spouse.ensures.value in
          let z = added (omega arith) in
          omega arith;
    }
