use Rattle.std.proofs.Common.{sym, ap, ◌∙◌}
use Rattle.bits.specs.Sets.{no_member}
use Rattle.shares.specs.Work.{work_of}
use Rattle.people.specs.Layout.{working}
use Rattle.amounts.specs.Estates.{estate_starts, estate_listing}
use Rattle.amounts.proofs.Estates.{estate_passes}
use Rattle.passes.specs.Heirs.{heirs_of}
use Rattle.estates.specs.Passing.{spare_zeros, pieces_by}
use Rattle.estates.proofs.Areas.{amounts_in, spare_left, no_list_work, parts_rowed}
use Rattle.estates.proofs.Estates.{heirs_all}
use Rattle.estates.proofs.Shares.{listed_heirs}
use Rattle.estates.proofs.divide_listed.Goals as goal

pub returns : goal.returns
returns c =
    let ws = c.args.memory.now in
    let r = c.divide-number.result in
    record {
      limit = c.unlist.ensures.limit ∙ c.divide-number.ensures.limit ∙ c.list_all-persons.ensures.limit;
      count = c.unlist.ensures.count ∙ c.divide-number.ensures.count ∙ c.list_all-persons.ensures.count;
      divided = λ n f rk d rest t.
          let ss = estate_starts f d in
          let os = estate_listing f d in
          let by = estate_passes t.ranked d in
          let listed =
          c.list_all-persons.ensures.listed n f rk ss (spare_left n) rest
          (record { rows = parts_rowed ws n f ss rest t.words t.few t.room; many = t.many; ranked = t.ranked; living = by.starts.living }) in
          let divided =
          c.divide-number.ensures.divided n f rk d (spare_left n) rest
          (record { rows = listed.rows; ranked = t.ranked; many = t.many; all = sym listed.next; spouse = t.spouse; repeats = t.repeats; some = t.some }) in
          let pieces = pieces_by n f d r in
          let left = c.unlist.ensures.left n f ss no_member pieces os (spare_left n) rest divided.rows by.listing (sym listed.next) in
          record {
            number = divided.number;
            words =
                left.words
                ∙ ap (λ a. working n f a rest)
                (no_list_work n ss (heirs_of pieces os no_member) pieces left.pieces_long
                ∙ ap (λ s. work_of n ss s (amounts_in pieces) (spare_zeros n)) (heirs_all pieces os (λ w h. listed_heirs t.ranked n d r w t.room divided.number h)));
          };
    }
