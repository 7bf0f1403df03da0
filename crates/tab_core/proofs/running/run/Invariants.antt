use Rattle.std.proofs.Common.{◌≡◌, List, length}
use Rattle.tab_history.specs.Bases.{new_core}
use Rattle.tab_history.specs.Histories.{world_of, world_after, jobs_of}
use Rattle.tab_history.specs.Legal.{Legal}
use Rattle.tab_history.specs.Refinement.{Refines}
use Rattle.tab_history.specs.Chains.{IsChain}
use Rattle.tab_store.specs.Parts.{TabletMerge}
use Rattle.tab_store.specs.Stores.{CoreContents, base_of, IsNewStore}
use Rattle.tab_store.specs.Chains.{EntryGoes, starting}
use Rattle.tab_core.specs.JobSlots.{JobsAre, HoldMerges}
use Rattle.tab_core.specs.Slots.{history_of}
use Rattle.tab_core.specs.Owners.{OwnersRefine}
use Rattle.tab_core.proofs.running.run.Given as goal

-- core, sessions and jobs refine the legal history of the steps taken so far, whose events are a chain of exact steps from the core that was new
abbrev pub invariant-loop-step : goal.invariant-loop-step
invariant-loop-step l = record {
  count : length l.yielded ≡ length l.replies.items;
  refines : Refines (world_of (base_of l.core)) (world_after (world_of new_core) (history_of l.yielded l.replies.items));
  owners : OwnersRefine l.sessions (world_of new_core) (history_of l.yielded l.replies.items);
  jobs : JobsAre (jobs_of (history_of l.yielded l.replies.items)) l.jobs;
  legal : Legal (world_of new_core) (history_of l.yielded l.replies.items);
  exact : (first : CoreContents) × (merges : List TabletMerge) × IsNewStore first × HoldMerges l.jobs merges × IsChain EntryGoes (starting first) (history_of l.yielded l.replies.items) (record { held = l.core; begun = merges });
}
