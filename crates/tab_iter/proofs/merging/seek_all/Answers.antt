-- One source more has sought.
use Rattle.std.proofs.Common.{◌<◌, length, arith}
use Rattle.tab_key.specs.KeyOf.{key_of}
use Rattle.tab_iter.specs.Lists.{from_key}
use Rattle.tab_iter.proofs.MergingLaws.{seek_whole, seek_step, seek_done}
use Rattle.tab_iter.proofs.merging.seek_all.Goals as goal

pub returns-in_err-seek-clause-whole : goal.returns-in_err-seek-clause-whole
returns-in_err-seek-clause-whole g c = seek_whole g.S.Source.whole c.loop-i.sources _ c.loop-i.i c.index-sources-i.result c.seek.new.self c.loop-i.invariant.whole c.seek.ensures.whole

pub loop-i-preserved : goal.loop-i-preserved
loop-i-preserved g c =
    let lt : c.loop-i.i < length c.loop-i.sources = omega arith in
    record {
      whole = seek_whole g.S.Source.whole c.loop-i.sources _ c.loop-i.i c.index-sources-i.result c.seek.new.self c.loop-i.invariant.whole c.seek.ensures.whole;
      rest = seek_step g.S.Source.rest g.S.Source.whole (from_key (key_of c.args.key)) c.loop-i.sources _ c.loop-i.i c.index-sources-i.result c.seek.new.self lt c.loop-i.invariant.whole c.loop-i.invariant.rest c.in_ok-seek.ensures.rest;
    }

pub returns-clause-rest : goal.returns-clause-rest
returns-clause-rest g c = seek_done g.S.Source.rest g.S.Source.whole (from_key (key_of c.args.key)) c.loop-i.sources c.args.sources.now c.loop-i.i (omega arith) (omega arith) c.loop-i.invariant.rest
