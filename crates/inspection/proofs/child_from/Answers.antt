use Rattle.std.proofs.Common.{◌-◌, ◌<◌, sym, refl, ap, ◌∙◌, subst, arith, rules}
use borrow.Author.Tests.{tests}
use Rattle.std.specs.List.{range_with_len}
use Rattle.std.specs.Option.{IfSome}
use Rattle.std.proofs.lemmas.Iterator.{YieldsList-from_range}
use Rattle.std.proofs.lemmas.Iterator.Adapters.{option_map_id}
use Rattle.std.proofs.lemmas.Iterator.Search.{find_from_yields_List}
use Rattle.std.proofs.lemmas.Option.{IfSome_then}
use Rattle.law.specs.Family.{is_child}
use Rattle.people.specs.Layout.{family_in, count_in}
use Rattle.people.specs.Persons.{link_of}
use Rattle.inspection.proofs.Scans.{first_found, found_below, range_below}
use Rattle.inspection.proofs.child_from.Goals as goal

pub link_to-requires : goal.link_to-requires
link_to-requires c =
    let f = family_in c.args.memory.now in
    let p = c.args.parent in
    let k = count_in c.args.memory.now in
    let from = c.args.from in
    let r = c.find-first.result in
    let found =
    find_from_yields_List (is_child f p) c.find-first.new.self _ r c.find-first.ensures.ran (YieldsList-from_range from k (k - from) refl refl)
    (λ x b q call. search (rules, tests)) in
    record {
      number = IfSome_then r
          (subst (λ o. IfSome o (λ x. x < k)) (sym found ∙ option_map_id r) (found_below k (is_child f p) (range_with_len from (k - from)) (range_below k from (k - from) (λ some. omega arith))))
          (λ x h. omega (arith, c.requires.room));
    }

pub returns : goal.returns
returns c =
    let f = family_in c.args.memory.now in
    let p = c.args.parent in
    let k = count_in c.args.memory.now in
    let from = c.args.from in
    let found =
    find_from_yields_List (is_child f p) c.find-first.new.self _ c.find-first.result c.find-first.ensures.ran (YieldsList-from_range from k (k - from) refl refl)
    (λ x b q call. search (rules, tests)) in
    record { value = c.link_to.ensures.value ∙ ap link_of (sym (option_map_id c.find-first.result) ∙ found) ∙ first_found f p (k - from) from }
