-- The first members have no error, or the next one has the first.
use Rattle.std.proofs.Common.{rules, ◌<◌, ◌∙◌}
use Rattle.std.proofs.lemmas.Result.{err_from_is_err_and}
use Rattle.wkt_write.proofs.Writable.{depth, member_below}
use Rattle.wkt_write.proofs.FirstErrors.{clean_start, clean_more, clean_fault, clean_end}
use Rattle.wkt_write.proofs.Members.{collection_refused, collection_checked, collection_known, members_counted}
use Rattle.wkt_write.proofs.check.+geometries.Goals as goal

pub check_members-returns-in_err-check_header : goal.check_members-returns-in_err-check_header
check_members-returns-in_err-check_header g t c =
    let p = err_from_is_err_and c.from_residual.result c.from_residual.ensures.1 in
    rw (p.1, p.2) (collection_refused _ _ _ _ c.requires c.dim.ensures c.in_err-check_header.ensures.err)

pub check_members-loop-i-init : goal.check_members-loop-i-init
check_members-loop-i-init g t c = clean_start _ _ _ _ (members_counted _ _ c.requires)

pub check_members-check_geometry-requires : goal.check_members-check_geometry-requires
check_members-check_geometry-requires g t c κs within =
    let h : depth (g.G.GeometryTrait.shape c.geometry.result.now) < depth (g.G.GeometryTrait.shape c.args.g.now) = member_below _ _ _ c.geometry.ensures in
    search (rules, h, c.decreases)

pub check_members-returns-in_err-check_geometry : goal.check_members-returns-in_err-check_geometry
check_members-returns-in_err-check_geometry g t c =
    let p = err_from_is_err_and c.from_residual-in_err-check_geometry.result c.from_residual-in_err-check_geometry.ensures.1 in
    rw (p.1, p.2)
    (collection_checked _ _ _ _ c.requires c.dim.ensures c.in_ok-check_header.ensures.ok
    ∙ clean_fault c.loop-i.invariant c.geometry.ensures c.in_err-check_geometry.ensures)

pub check_members-returns : goal.check_members-returns
check_members-returns g t c =
    let e = clean_end c.loop-i.invariant c.loop-i-test.false in
    record {
      none = collection_checked _ _ _ _ c.requires c.dim.ensures c.in_ok-check_header.ensures.ok ∙ e.none;
      holds = collection_known _ _ _ c.requires e.holds;
    }

pub check_members-loop-i-preserved : goal.check_members-loop-i-preserved
check_members-loop-i-preserved g t c = clean_more c.loop-i.invariant c.geometry.ensures c.in_ok-check_geometry.ensures
