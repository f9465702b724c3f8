-- The first members of a collection are written, behind its header.
use Rattle.std.proofs.Common.{rules, ◌≡◌, ◌<◌, None}
use Rattle.wkt_write.proofs.Bracketed.{broken_header, broken_opening, broken_members, whole}
use Rattle.wkt_write.proofs.Writable.{depth, member_below}
use Rattle.wkt_write.proofs.FirstErrors.{listing_broken_before, listing_broken, listing_start, listing_more, listing_end}
use Rattle.wkt_write.proofs.Members.{member_clean, members_counted}
use Rattle.wkt_num.proofs.SinkCalls.{puts_err}
use Rattle.wkt_access.specs.Faults.{fault}
use Rattle.wkt_write.proofs.put_geometries.+geometries.Goals as goal

pub put_members-returns-in_err-put_collection_header : goal.put_members-returns-in_err-put_collection_header
put_members-returns-in_err-put_collection_header g t c =
    puts_err _ _ c.from_residual.ensures.1
    (broken_header g.G.T.WktNum.num c.args.count (g.G.GeometryTrait.shape c.args.g.now) c.dim.result c.requires.count c.dim.ensures c.in_err-put_collection_header.ensures)

pub put_members-returns-in_err-put_opening : goal.put_members-returns-in_err-put_opening
put_members-returns-in_err-put_opening g t c =
    puts_err _ _ c.from_residual-in_err-put_opening.ensures.1
    (broken_opening g.G.T.WktNum.num c.args.count (g.G.GeometryTrait.shape c.args.g.now) c.dim.result c.requires.count c.dim.ensures c.in_ok-put_collection_header.ensures c.in_err-put_opening.ensures)

pub put_members-loop-i-init : goal.put_members-loop-i-init
put_members-loop-i-init g t c = listing_start _ _ _ _ _ (members_counted _ _ c.requires.count)

pub put_members-returns-in_err-put_separator : goal.put_members-returns-in_err-put_separator
put_members-returns-in_err-put_separator g t c =
    puts_err _ _ c.from_residual-in_err-put_separator.ensures.1
    (broken_members g.G.T.WktNum.num c.args.count (g.G.GeometryTrait.shape c.args.g.now) c.dim.result c.requires.count c.dim.ensures c.in_ok-put_collection_header.ensures c.in_ok-put_opening.ensures
    (listing_broken_before c.loop-i.invariant c.loop-i-test.true c.in_err-put_separator.ensures))

pub put_members-put_geometry-requires : goal.put_members-put_geometry-requires
put_members-put_geometry-requires g t c κs within =
    let below : depth (g.G.GeometryTrait.shape c.geometry.result.now) < depth (g.G.GeometryTrait.shape c.args.g.now) = member_below _ _ _ c.geometry.ensures in
    let clean : fault (g.G.GeometryTrait.shape c.geometry.result.now) ≡ None = member_clean (g.G.GeometryTrait.shape c.args.g.now) c.loop-i.i _ c.requires.fault c.geometry.ensures in
    search (rules, below, clean, c.decreases)

pub put_members-returns-in_err-put_geometry : goal.put_members-returns-in_err-put_geometry
put_members-returns-in_err-put_geometry g t c =
    puts_err _ _ c.from_residual-in_err-put_geometry.ensures.1
    (broken_members g.G.T.WktNum.num c.args.count (g.G.GeometryTrait.shape c.args.g.now) c.dim.result c.requires.count c.dim.ensures c.in_ok-put_collection_header.ensures c.in_ok-put_opening.ensures
    (listing_broken c.loop-i.invariant c.geometry.ensures c.in_ok-put_separator.ensures c.in_err-put_geometry.ensures))

pub put_members-loop-i-preserved : goal.put_members-loop-i-preserved
put_members-loop-i-preserved g t c = listing_more c.loop-i.invariant c.geometry.ensures c.in_ok-put_separator.ensures c.in_ok-put_geometry.ensures

pub put_members-returns : goal.put_members-returns
put_members-returns g t c =
    whole g.G.T.WktNum.num c.args.count (g.G.GeometryTrait.shape c.args.g.now) c.dim.result c.requires.count c.dim.ensures _ _ c.in_ok-put_collection_header.ensures c.in_ok-put_opening.ensures
    (listing_end c.loop-i.invariant c.loop-i-test.false) c.put_closing.ensures
