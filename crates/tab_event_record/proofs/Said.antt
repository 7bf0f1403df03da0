-- The body that was written for an act says that act.
use Rattle.std.proofs.Common.{◌≡◌, ℕ, ◌<◌, ◌^◌, List, length, Option, Some, sym, ap, subst, ◌∙◌}
use Rattle.std.specs.Option.{unwrap_or}
use Rattle.tab_history.specs.declared.event.Act.{Act}
use Rattle.tab_history.specs.declared.event.Act.TheVariants as act
use Rattle.tab_codec.specs.Parts.{IsBytes}
use Rattle.tab_event_record.specs.Fitting.{FitsAct}
use Rattle.tab_event_record.specs.Records.{body_bytes, act_in, act_said, IsBody}
use Rattle.tab_event_record.proofs.Written.{written}

-- the body that was written for an act says that act
pub said : (a : Act) → FitsAct a → (body : List ℕ) → body ≡ body_bytes a → length body < 2 ^ 32 → IsBytes body → act_said body ≡ a
said a fits body is low bytes =
    let P : List ℕ → Type 0 = λ z. length z < 2 ^ 32 in
    ap act_said is ∙ ap (λ (o : Option Act). unwrap_or o act.Save) (written a fits (subst P is low) (subst IsBytes is bytes))

pub is_body : (a : Act) → FitsAct a → (body : List ℕ) → body ≡ body_bytes a → length body < 2 ^ 32 → IsBytes body → IsBody body
is_body a fits body is low bytes =
    let P : List ℕ → Type 0 = λ z. length z < 2 ^ 32 in
    let same : act_said body ≡ a = said a fits body is low bytes in record {
      read = ap act_in is ∙ written a fits (subst P is low) (subst IsBytes is bytes) ∙ ap (λ (x : Act). Some x) (sym same);
      written = is ∙ ap body_bytes (sym same);
      short = low;
    }
