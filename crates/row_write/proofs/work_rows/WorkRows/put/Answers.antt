use Rattle.row_write.proofs.Worked.{put_rows}
use Rattle.row_write.proofs.work_rows.WorkRows.put.Goals as goal

pub returns-clause-ok : goal.returns-clause-ok
returns-clause-ok c = put_rows c.self.inside.row_versions.items c.push.new.self.items (record { table = c.args.table; row = c.args.row; there = c.args.there }) c.args.self.now c.in_ok-push.ensures.items c.self.view_is
