-- The writer took the page, and where none is left, the pages are the listing.
use Rattle.std.proofs.Common.{rules}
use Rattle.mrc_list.proofs.Written.{writing_on, writing_ends}
use Rattle.mrc_list.proofs.write_listing.Goals as goal

pub loop-page-preserved : goal.loop-page-preserved
loop-page-preserved g c =
    let w = writing_on c.args.image.now _ _ _ c.loop-page.at c.loop-page.out c.next_page.new.out _ c.in-Some.page c.loop-page.invariant.written c.in-Some.ensures c.in_ok-write_all.ensures.bytes in
    record { long = search rules; written = w }

pub returns : goal.returns
returns g c = writing_ends c.args.image.now _ _ _ c.loop-page.at c.loop-page.out c.next_page.new.out c.requires (search rules) c.loop-page.invariant.written c.in_default.ensures
