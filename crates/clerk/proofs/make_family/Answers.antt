-- Births, then weddings, then deaths. Assumes nothing.
use Rattle.std.proofs.Common.{[], ◌++◌, sym, ap, ◌∙◌}
use Rattle.law.specs.Promise.{Memory, left_by, all_calls}
use Rattle.text.specs.Households.{persons_of}
use Rattle.service.specs.Desks.{desk}
use Rattle.report.specs.Lines.{memory_of}
use Rattle.text.specs.Building.{births, weddings, deaths, calls_of}
use Rattle.clerk.proofs.Calling.{left_then}
use Rattle.clerk.proofs.make_family.Goals as goal

pub returns : goal.returns
unfolding calls_of
returns c =
    let f = persons_of c.args.members.now in
    let m = memory_of c.args.register.now in
    record {
      left =
          c.make_deaths.ensures.left
          ∙ (ap (λ (u : Memory). left_by (desk all_calls []) u (deaths 0 f)) (c.make_weddings.ensures.left ∙ ap (λ (u : Memory). left_by (desk all_calls []) u (weddings 0 f)) c.make_births.ensures.left)
          ∙ (sym (left_then (left_by (desk all_calls []) m (births f)) (weddings 0 f) (deaths 0 f)) ∙ sym (left_then m (births f) (weddings 0 f ++ deaths 0 f))));
      words = c.make_deaths.ensures.words ∙ (c.make_weddings.ensures.words ∙ c.make_births.ensures.words);
      bytes = c.make_deaths.ensures.bytes ∙ (c.make_weddings.ensures.bytes ∙ c.make_births.ensures.bytes);
    }
