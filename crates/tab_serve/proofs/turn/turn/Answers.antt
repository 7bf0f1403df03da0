use Rattle.std.proofs.Common.{ℕ, List, Option, sym, subst}
use Rattle.std.specs.Prelude.{is_some, IfSome}
use Rattle.tab_io.specs.Writing.{HasPut}
use Rattle.tab_wire.specs.declared.asked.Asked.{Asked}
use Rattle.tab_wire.specs.Asking.{Asks, Hears, Knows, IsFramed}
use Rattle.tab_wire.specs.Heard.{Heard, heard_by, next_by}
use Rattle.tab_serve.specs.Progress.{side, AnswersAll, AnswersFront, IsLeftButPart}
use Rattle.tab_serve.proofs.TurnLemmas.{none_all, none_whole}
use Rattle.tab_serve.proofs.ProgressLemmas.{told_goes, none_flushes, told_flushes, has_user}
use Rattle.tab_serve.proofs.turn.turn.Goals as goal

pub tell_read-requires-clause-user : goal.tell_read-requires-clause-user
tell_read-requires-clause-user g c =
    let user : Option (List ℕ) = c.ask.new.conn.user in
    let knows = subst (λ (f : Option Asked). Knows c.args.conn.now (next_by user f) c.ask.new.conn) c.in-Ok-Some.field-0-is c.in-Ok-Some.ensures.ok in
    has_user c.args.conn.now.user user c.in-Ok-Some.asked knows.0

pub tell_read-requires-clause-framed : goal.tell_read-requires-clause-framed
tell_read-requires-clause-framed g c = subst (λ (f : Option Asked). IsFramed c.ask.new.conn.frame f) c.in-Ok-Some.field-0-is c.in-Ok-Some.ensures.frame

pub returns-in-Ok-Some-clause-goes : goal.returns-in-Ok-Some-clause-goes
returns-in-Ok-Some-clause-goes g c =
    let user : Option (List ℕ) = c.ask.new.conn.user in
    let what : Heard = heard_by user c.in-Ok-Some.asked in
    let ahead : Option (List ℕ) = g.R.Input.remaining c.args.input.now in
    let left : Option (List ℕ) = g.R.Input.remaining c.ask.new.input in
    let asks = subst (λ (f : Option Asked). IfSome ahead (λ bytes. Asks (is_some c.args.conn.now.user) bytes (next_by user f) left)) c.in-Ok-Some.field-0-is c.in-Ok-Some.ensures.ahead in
    let knows = subst (λ (f : Option Asked). Knows c.args.conn.now (next_by user f) c.ask.new.conn) c.in-Ok-Some.field-0-is c.in-Ok-Some.ensures.ok in
    let hears = subst (λ (u : Option (List ℕ)). Hears c.args.conn.now.user what u) (sym c.tell_read.ensures.user) knows.0 in
    told_goes g.R.Input g.W.Output g.S.Service (side c.args.conn.now c.args.service.now) c.tell_read.new.conn.user c.tell_read.new.service c.args.input.now c.ask.new.input c.args.output.now c.flush_before_read.new.output
    c.tell_read.new.output what c.tell_read.ensures.told.0 c.tell_read.result asks hears c.tell_read.ensures.told.1 c.tell_read.ensures.on c.in-Ok.ensures.puts c.tell_read.ensures.told.2

pub returns-in-Ok-None-clause-goes : goal.returns-in-Ok-None-clause-goes
returns-in-Ok-None-clause-goes g c =
    let at = side c.args.conn.now c.args.service.now in
    let user : Option (List ℕ) = c.ask.new.conn.user in
    let ahead : Option (List ℕ) = g.R.Input.remaining c.args.input.now in
    let left : Option (List ℕ) = g.R.Input.remaining c.ask.new.input in
    let asks = subst (λ (f : Option Asked). IfSome ahead (λ bytes. Asks (is_some c.args.conn.now.user) bytes (next_by user f) left)) c.in-Ok-None.field-0-is c.in-Ok-None.ensures.ahead in
    let knows = subst (λ (f : Option Asked). Knows c.args.conn.now (next_by user f) c.ask.new.conn) c.in-Ok-None.field-0-is c.in-Ok-None.ensures.ok in
    let put = HasPut g.W.Output c.args.output.now c.flush_before_read.new.output in
    subst (λ (u : Option (List ℕ)). AnswersAll g.S.Service at ahead (record { user = u; service = c.args.service.now }) put) (sym knows.0)
    (none_all g.S.Service at put c.in-Ok.ensures.puts (is_some c.args.conn.now.user) ahead left asks)

pub returns-in-Err-ask-clause-goes : goal.returns-in-Err-ask-clause-goes
returns-in-Err-ask-clause-goes g c =
    let at = side c.args.conn.now c.args.service.now in
    let ahead : Option (List ℕ) = g.R.Input.remaining c.args.input.now in
    let left : Option (List ℕ) = g.R.Input.remaining c.ask.new.input in
    let put = HasPut g.W.Output c.args.output.now c.flush_before_read.new.output in
    subst (λ (u : Option (List ℕ)). AnswersFront g.S.Service at ahead (record { user = u; service = c.args.service.now }) (IsLeftButPart left) put) (sym c.in-Err-ask.ensures.err.0)
    (none_whole g.S.Service at put c.in-Ok.ensures.puts ahead left c.in-Err-ask.ensures.left)

pub ask-requires : goal.ask-requires
ask-requires g c = c.in-Ok.ensures.flushed

pub returns-in-Ok-Some-clause-flushes : goal.returns-in-Ok-Some-clause-flushes
returns-in-Ok-Some-clause-flushes g c =
    told_flushes g.R.Input g.W.Output c.args.input.now c.args.output.now c.flush_before_read.new.output c.tell_read.new.output c.in-Ok.ensures.puts c.in-Ok.ensures.flushed _ c.tell_read.result c.tell_read.ensures.told.2

pub returns-in-Ok-None-clause-flushes : goal.returns-in-Ok-None-clause-flushes
returns-in-Ok-None-clause-flushes g c = none_flushes g.R.Input g.W.Output c.args.input.now c.args.output.now c.flush_before_read.new.output c.flush_before_read.new.output c.in-Ok.ensures.puts c.in-Ok.ensures.flushed
