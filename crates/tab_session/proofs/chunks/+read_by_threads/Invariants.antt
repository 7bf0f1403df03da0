use Rattle.std.proofs.Common.{◌+◌, ◌*◌}
use Rattle.tab_session.proofs.chunks.+read_by_threads.Given as goal

abbrev pub decreases-read_by_threads : goal.decreases-read_by_threads
decreases-read_by_threads g l = 2 * l.threads + 1

abbrev pub decreases-here : goal.decreases-here
decreases-here g l = 2 * l.threads
