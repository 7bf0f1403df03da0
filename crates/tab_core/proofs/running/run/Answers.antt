use Rattle.std.proofs.Common.{◌≡◌, ◌+◌, List, [], ◌∷◌, ◌++◌, length, subst, sym, ◌∙◌, ap, refl, rules}
use Rattle.std.proofs.lemmas.Iterator.Adapters.{YieldsList-from_vec}
use Rattle.std.proofs.lemmas.Iterator.Consumers.{YieldsList-end}
use Rattle.std.proofs.lemmas.List.{map-id, length_push}
use Rattle.tab_history.specs.declared.event.Step.{Step}
use Rattle.tab_history.specs.Bases.{new_core}
use Rattle.tab_history.specs.Histories.{Entry, World, world_of, world_after, jobs_of}
use Rattle.tab_history.specs.Legal.{Legal, LacksWhereItMay}
use Rattle.tab_history.specs.Refinement.{Refines}
use Rattle.tab_history.specs.Chains.{IsChain}
use Rattle.tab_history.proofs.Lacking.{legal}
use Rattle.tab_store.specs.Parts.{TabletMerge}
use Rattle.tab_store.specs.Stores.{CoreContents, base_of}
use Rattle.tab_store.specs.Chains.{EntryGoes, IsExactRun, starting}
use Rattle.tab_core.specs.Slots.{history_of}
use Rattle.tab_core.specs.declared.job_slots.JobSlot.{JobSlot}
use Rattle.tab_core.specs.JobSlots.{JobsAre, HoldMerges}
use Rattle.tab_core.specs.Sessions.{Keeping}
use Rattle.tab_core.specs.Owners.{OwnersRefine}
use Rattle.tab_core.proofs.JobLemmas.{hold_none}
use Rattle.tab_core.proofs.Runs.{history_push, owners_none, after_none, none_before, goes_on_chain}
use Rattle.tab_core.proofs.running.run.Goals as goal

pub loop-step-init : goal.loop-step-init
loop-step-init c = record {
  count = search rules;
  refines = subst (λ (w : World). Refines (world_of (base_of c.in_ok-core.core)) w) (sym (after_none (world_of new_core))) c.in_ok-core.ensures.refines;
  owners = subst (λ (os : Keeping). OwnersRefine os (world_of new_core) []) (sym c.new-sessions.ensures) (owners_none (world_of new_core));
  jobs = none_before c.new-jobs.result c.new-jobs.ensures;
  legal = tt;
  exact = (c.in_ok-core.core, [], c.in_ok-core.ensures.new, subst (λ (ss : List JobSlot). HoldMerges ss []) (sym c.new-jobs.ensures) hold_none, refl);
}

pub loop-step-preserved : goal.loop-step-preserved
loop-step-preserved c =
    let step : Step = c.in-Some.step in
    let before : List Entry = history_of c.loop-step.yielded c.loop-step.replies.items in
    let grown : c.push_reserved.new.self.items ≡ c.loop-step.replies.items ++ c.run_step-reply.result ∷ [] = search rules in
    let more : history_of (c.loop-step.yielded ++ step ∷ []) c.push_reserved.new.self.items ≡ record { step = step; reply = c.run_step-reply.result } ∷ before =
    ap (history_of (c.loop-step.yielded ++ step ∷ [])) grown ∙ history_push c.loop-step.yielded c.loop-step.replies.items step c.run_step-reply.result c.loop-step.invariant.count in
    let chain = c.loop-step.invariant.exact in
    let after = c.run_step-reply.ensures.histories (world_of new_core) before c.loop-step.invariant.refines c.loop-step.invariant.owners c.loop-step.invariant.jobs c.loop-step.invariant.legal in
    let grown_chain = goes_on_chain chain.0 chain.1 c.loop-step.core c.run_step-reply.new.core c.loop-step.jobs c.run_step-reply.new.jobs before (record { step = step; reply = c.run_step-reply.result }) chain.3 chain.4 c.run_step-reply.ensures.exact in
    record {
      count = length_push c.loop-step.yielded step ∙ ap (λ n. n + 1) c.loop-step.invariant.count ∙ sym (length_push c.loop-step.replies.items c.run_step-reply.result) ∙ ap length (sym grown);
      refines = subst (λ (h : List Entry). Refines (world_of (base_of c.run_step-reply.new.core)) (world_after (world_of new_core) h)) (sym more) after.0;
      owners = subst (λ (h : List Entry). OwnersRefine c.run_step-reply.new.sessions (world_of new_core) h) (sym more) after.1;
      jobs = subst (λ (h : List Entry). JobsAre (jobs_of h) c.run_step-reply.new.jobs) (sym more) after.2;
      legal = subst (λ (h : List Entry). Legal (world_of new_core) h) (sym more) after.3;
      exact = (chain.0, grown_chain.0, chain.2, grown_chain.1, subst (λ (h : List Entry). IsChain EntryGoes (starting chain.0) h (record { held = c.run_step-reply.new.core; begun = grown_chain.0 })) (sym more) grown_chain.2);
    }

pub returns-clause-length : goal.returns-clause-length
returns-clause-length c =
    let all = YieldsList-end (YieldsList-from_vec c.args.steps.items (search rules) (search rules)) c.loop-step.yielded c.loop-step.step-iterator c.loop-step.yielded_by _ c.next.new.self c.in-None.is c.next.ensures.steps in
    sym c.loop-step.invariant.count ∙ all.1

pub returns-clause-legal : goal.returns-clause-legal
returns-clause-legal c =
    let all = YieldsList-end (YieldsList-from_vec c.args.steps.items (search rules) (search rules)) c.loop-step.yielded c.loop-step.step-iterator c.loop-step.yielded_by _ c.next.new.self c.in-None.is c.next.ensures.steps in
    subst (λ (steps : List Step). Legal (world_of new_core) (history_of steps c.loop-step.replies.items)) (sym (map-id c.loop-step.yielded) ∙ all.0) c.loop-step.invariant.legal

pub returns-clause-memory : goal.returns-clause-memory
returns-clause-memory c =
    let all = YieldsList-end (YieldsList-from_vec c.args.steps.items (search rules) (search rules)) c.loop-step.yielded c.loop-step.step-iterator c.loop-step.yielded_by _ c.next.new.self c.in-None.is c.next.ensures.steps in
    subst (λ (steps : List Step). LacksWhereItMay (history_of steps c.loop-step.replies.items)) (sym (map-id c.loop-step.yielded) ∙ all.0) (legal (world_of new_core) _ c.loop-step.invariant.legal)

pub returns-clause-exact : goal.returns-clause-exact
returns-clause-exact c =
    let all = YieldsList-end (YieldsList-from_vec c.args.steps.items (search rules) (search rules)) c.loop-step.yielded c.loop-step.step-iterator c.loop-step.yielded_by _ c.next.new.self c.in-None.is c.next.ensures.steps in
    let chain = c.loop-step.invariant.exact in
    let run : IsExactRun (history_of c.loop-step.yielded c.loop-step.replies.items) = (chain.0, record { held = c.loop-step.core; begun = chain.1 }, chain.2, chain.4) in
    subst (λ (steps : List Step). IsExactRun (history_of steps c.loop-step.replies.items)) (sym (map-id c.loop-step.yielded) ∙ all.0) run
