use Rattle.std.proofs.Common.{drop, refl}
use Rattle.std.proofs.lemmas.List.{take_rest}
use Rattle.resp.specs.declared.place.Head.TheVariants.{Array}
use Rattle.slot_map.proofs.Elements.{kind, no_array, no_token}
use Rattle.slot_map.proofs.topology.elements.array.Goals as goal

pub returns-in_err-token : goal.returns-in_err-token
returns-in_err-token c v rest begins = absurd (no_token c.args.depth c.args.bytes.now rest v begins c.in_err-token.ensures.value)

pub returns-in-Array : goal.returns-in-Array
returns-in-Array c v rest begins =
    let t = c.in_ok-token in
    let array = kind c.args.depth c.args.bytes.now rest v begins t.token (Array c.in-Array.count) t.ensures.value c.in-Array.is in
    record {
      values = array.values;
      is = array.is;
      come = record { deep = refl; front = drop t.token.len c.args.bytes.now; onward = take_rest c.args.bytes.now t.token.len; follow = array.follow };
    }

pub returns-in_default : goal.returns-in_default
returns-in_default c v rest begins = no_array c.args.depth c.args.bytes.now rest v begins c.in_ok-token.token c.in_ok-token.ensures.value c.in_default.not-Array
