use Rattle.std.proofs.Common.{◌≡◌, ◌∙◌, ap, sym, subst, ◌++◌, ◌∷◌, [], length, length-append, arith}
use Rattle.std.specs.Prelude.{map}
use Rattle.std.specs.List.{AllByRecursion}
use Rattle.tab_mutation.specs.Mutations.{Update, IsBare}
use Rattle.tab_mutation.specs.UpdateSpans.{update_in, IsWithin}
use Rattle.tab_key.proofs.Bodies.{same_part, no_shorter, at_err}
use Rattle.tab_mutation.proofs.Bodies.{pushed_within, pushed_updates, same_updates, all_within, bare_pushed}
use Rattle.tab_mutation.proofs.mutation.Mutation.add.Goals as goal

pub returns-in_err-span-clause-err : goal.returns-in_err-span-clause-err
returns-in_err-span-clause-err c =
    let spans : c.reserve.new.self.items ≡ c.self.inside.spans.items = cc in
    let row = same_part _ _ c.append.ensures.front 0 c.self.inside.row_end (omega arith) c.self.invariant.row in
    let updates = ap (map (update_in c.append.new.body.items)) spans ∙ same_updates _ _ _ c.append.ensures.front c.self.invariant.updates in
    at_err _ ((λ i. record { row = row i; updates = updates i }) ∙ c.self.view_is)

pub invariant_of-self-in_err-span : goal.invariant_of-self-in_err-span
invariant_of-self-in_err-span c =
    let spans : c.reserve.new.self.items ≡ c.self.inside.spans.items = cc in
    record {
      row = omega (arith, no_shorter _ _ c.append.ensures.front, c.self.invariant.row);
      updates = subst (AllByRecursion (IsWithin c.append.new.body.items)) (sym spans) (all_within _ _ _ c.append.ensures.front c.self.invariant.updates);
      markers = subst (AllByRecursion IsBare) (sym (ap (map (update_in c.append.new.body.items)) spans ∙ same_updates _ _ _ c.append.ensures.front c.self.invariant.updates)) c.self.invariant.markers;
    }

pub invariant_of-self-2 : goal.invariant_of-self-2
invariant_of-self-2 c =
    let spans : c.push_reserved.new.self.items ≡ c.self.inside.spans.items ++ c.in_ok-span.span ∷ [] = c.push_reserved.ensures.items ∙ ap (λ xs. xs ++ c.in_ok-span.span ∷ []) c.in_ok-reserve.ensures.items in
    let added : Update = record { kind = c.args.kind; family = c.args.family.now; qualifier = c.args.qualifier.now; label = c.args.label.now; timestamp = c.args.timestamp; value = c.args.value.now } in
    record {
      row = omega (arith, no_shorter _ _ c.append.ensures.front, c.self.invariant.row);
      updates = pushed_within _ _ _ _ c.in_ok-span.span spans c.append.ensures.front c.self.invariant.updates c.in_ok-span.ensures.within;
      markers = subst (AllByRecursion IsBare) (sym (pushed_updates _ _ _ _ c.in_ok-span.span added spans c.append.ensures.front c.self.invariant.updates c.in_ok-span.ensures.update)) (bare_pushed _ added c.self.invariant.markers c.requires.bare);
    }

pub returns-clause-ok : goal.returns-clause-ok
returns-clause-ok c =
    let spans : c.push_reserved.new.self.items ≡ c.self.inside.spans.items ++ c.in_ok-span.span ∷ [] = c.push_reserved.ensures.items ∙ ap (λ xs. xs ++ c.in_ok-span.span ∷ []) c.in_ok-reserve.ensures.items in
    let row = same_part _ _ c.append.ensures.front 0 c.self.inside.row_end (omega arith) c.self.invariant.row in
    let added : Update = record { kind = c.args.kind; family = c.args.family.now; qualifier = c.args.qualifier.now; label = c.args.label.now; timestamp = c.args.timestamp; value = c.args.value.now } in
    let updates = pushed_updates _ _ _ _ c.in_ok-span.span added spans c.append.ensures.front c.self.invariant.updates c.in_ok-span.ensures.update in
    (λ i. record { row = row i; updates = updates i }) ∙ ap (λ m. record { row = m.row; updates = m.updates ++ added ∷ [] }) c.self.view_is
