use Rattle.std.proofs.Common.{ap, ◌∙◌, rules}
use Rattle.std.proofs.lemmas.Iterator.{items_from_collect, YieldsList-from_map, YieldsList-from_slice}
use Rattle.std.proofs.lemmas.Iterator.Consumers.{YieldsList-from_enumerate, YieldsList-at}
use Rattle.std.proofs.lemmas.Result.{IfOk-weaker}
use Rattle.ways.specs.Rows.{family_of}
use Rattle.kinship.proofs.Forebears.{only_at, only_is}
use Rattle.kinship.proofs.only_living.Goals as goal

pub returns : goal.returns
returns c =
    record {
      value =
          IfOk-weaker c.collect.result _ _ (λ v e. ap family_of e ∙ only_is c.args.family.now c.args.who)
          (items_from_collect _ c.collect.ensures.ran
          (YieldsList-from_map _ (only_at c.args.who)
          (YieldsList-at c.map.ensures.source (YieldsList-from_enumerate (YieldsList-at c.enumerate.ensures.source (YieldsList-from_slice c.args.family.now cc)) cc)) c.map.ensures.closure
          (λ x r q k. search rules)));
    }
