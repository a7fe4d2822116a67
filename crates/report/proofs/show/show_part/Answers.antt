use Rattle.std.proofs.Common.{◌≡◌, ℕ, suc, ◌<◌, All, List, [], ◌∷◌, get_or, take, IsAscii, IsUtf8, Fits, w8, arith, ◌∙◌, ap}
use Rattle.std.proofs.lemmas.Bool.Decides.{nat_tests}
use Rattle.std.proofs.lemmas.List.{take_all}
use Rattle.std.proofs.lemmas.Str.{IsAscii-append, IsUtf8-from_ascii}
use Rattle.std.proofs.lemmas.Str.Ascii.{IsAscii-nil, IsAscii-from_all}
use Rattle.report.specs.Shown.{byte_shown, all_shown}
use Rattle.report.proofs.show.show_part.Goals as goal

byte_ascii : (b : ℕ) → b < 256 → All (λ x. x < 128) (byte_shown b)
byte_ascii b small = grind (arith, nat_tests)

shown_ascii : (bs : List ℕ) → ((i : ℕ) → Fits w8 (get_or bs i 0)) → IsAscii (all_shown bs)
shown_ascii [] bytes = IsAscii-nil
shown_ascii (b ∷ bs) bytes =
    let small : Fits w8 b = bytes 0 in
    IsAscii-append (byte_shown b) (all_shown bs) (IsAscii-from_all (byte_shown b) (byte_ascii b (omega arith))) (shown_ascii bs (λ i. bytes (suc i)))

pub unwrap-requires : goal.unwrap-requires
unwrap-requires c =
    let text : take c.loop-b.len c.loop-b.room ≡ all_shown c.args.part.now =
    c.loop-b.invariant.so_far ∙ ap all_shown (take_all c.loop-b.b-index c.args.part.now c.loop-b-test.false) in
    let utf8 : IsUtf8 (take c.loop-b.len c.loop-b.room) = rw text (IsUtf8-from_ascii (all_shown c.args.part.now) (shown_ascii c.args.part.now c.type_inv.part)) in
    grind arith
