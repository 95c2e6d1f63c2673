-- Shares written one after the other. Assumes nothing.
use Rattle.std.proofs.Common.{◌+◌, ◌*◌, map, length, get_or, take, sym, ap, ◌∙◌, arith}
use Rattle.std.proofs.lemmas.List.{length-map, get_or-map}
use Rattle.rows.specs.Written.{written}
use Rattle.wire.specs.declared.Share.{Share}
use Rattle.wire.specs.Bytes.{law_share, share_bytes, shares_begun}
use Rattle.wire.proofs.Bytes.{begun_more, begun_all}
use Rattle.wire.proofs.put_shares.Goals as goal

pub loop-i-init : goal.loop-i-init
loop-i-init c = λ out e. e

pub loop-i-preserved : goal.loop-i-preserved
loop-i-preserved c = λ out e.
    let hs = c.args.heirs.now in
    let i = c.loop-i.i in
    let many = length-map hs law_share in
    let none : Share = record { who = 0; up = 0; down = 0 } in
    c.put_share.ensures.left
    ∙ (ap (written (5 + 20 * i) (share_bytes (law_share (get_or hs i none)))) (c.loop-i.invariant out e)
    ∙ (ap (λ s. written (5 + 20 * i) (share_bytes s) (written 0 (shares_begun (length hs) (take i (map law_share hs))) out)) (sym (get_or-map law_share hs i none (law_share none) (omega arith)))
    ∙ begun_more (length hs) i (map law_share hs) (law_share none) out (omega arith)))

pub returns : goal.returns
returns c =
    let hs = c.args.heirs.now in
    let many = length-map hs law_share in
    record {
      left =
          c.loop-i.invariant c.args.out.now c.put_count.ensures.left
          ∙ (ap (λ k. written 0 (shares_begun k (take c.loop-i.i (map law_share hs))) c.args.out.now) (sym many)
          ∙ begun_all c.loop-i.i (map law_share hs) c.args.out.now (omega arith));
    }
