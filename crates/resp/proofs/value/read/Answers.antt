use Rattle.resp.proofs.Readings.{unambiguous, value_sound, value_complete}
use Rattle.resp.proofs.Stood.{stood}
use Rattle.resp.proofs.value.read.Goals as goal

pub returns-clause-stands : goal.returns-clause-stands
returns-clause-stands c = stood c.args.depth c.args.bytes.now c.walk.result c.walk.ensures.within c.walk.ensures.value

pub returns-clause-sound : goal.returns-clause-sound
returns-clause-sound c = value_sound

pub returns-clause-complete : goal.returns-clause-complete
returns-clause-complete c = value_complete

pub returns-clause-once : goal.returns-clause-once
returns-clause-once c = unambiguous
