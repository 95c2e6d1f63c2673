use Rattle.std.proofs.Common.{◌≡◌, ◌-◌, ◌<◌, length, sym, ap, ◌∙◌, subst, arith, rules}
use borrow.Author.Tests.{tests}
use Rattle.std.proofs.lemmas.Iterator.Adapters.{option_map_id}
use Rattle.std.proofs.lemmas.Iterator.Search.{find_from_yields_List}
use Rattle.std.specs.Option.{IfSome}
use Rattle.std.proofs.lemmas.Option.{IfSome_then}
use Rattle.law.specs.Family.{is_child, children_in}
use Rattle.children.specs.Links.{last_of}
use Rattle.people.specs.Layout.{family_in, count_in}
use Rattle.people.specs.Persons.{link_of}
use Rattle.people.proofs.Layouts.{length-family}
use Rattle.inspection.proofs.Scans.{downs, last_found, gives_downs, found_below, downs_below}
use Rattle.inspection.proofs.last_child.Goals as goal

pub link_to-requires : goal.link_to-requires
link_to-requires c =
    let f = family_in c.args.memory.now in
    let p = c.args.parent in
    let k = count_in c.args.memory.now in
    let r = c.rfind-last.result in
    let found =
    find_from_yields_List (is_child f p) c.rfind-last.new.self _ r c.rfind-last.ensures.ran (gives_downs record { start = 0; end = k })
    (λ x b q call. search (rules, tests)) in
    record {
      number = IfSome_then r
          (subst (λ o. IfSome o (λ x. x < k)) (sym found ∙ option_map_id r) (found_below k (is_child f p) (downs 0 (k - 0)) (downs_below k (k - 0) (omega arith))))
          (λ x h. omega (arith, c.requires.room));
    }

pub returns : goal.returns
returns c =
    let ws = c.args.memory.now in
    let f = family_in ws in
    let p = c.args.parent in
    let k = count_in ws in
    let n : k - 0 ≡ length f = omega (arith, length-family ws) in
    let found =
    find_from_yields_List (is_child f p) c.rfind-last.new.self _ c.rfind-last.result c.rfind-last.ensures.ran (gives_downs record { start = 0; end = k })
    (λ x b q call. search (rules, tests)) in
    record {
      value = c.link_to.ensures.value ∙ ap link_of (sym (option_map_id c.rfind-last.result) ∙ found) ∙ last_found f p (k - 0)
          ∙ ap (λ j. last_of (children_in f p j 0)) n;
    }
