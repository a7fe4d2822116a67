-- Worked examples of redirects.
use Rattle.std.specs.Prelude.{◌≡◌, Some, None, codes}
use Rattle.errors.specs.Redirection.{redirect, moved}

abbrev pub RedirectExamples : Type 0
RedirectExamples =
    (redirect (codes "MOVED 3999 127.0.0.1:6381") ≡ Some (moved (record { host = codes "127.0.0.1"; port = 6381 })))
    × (redirect (codes "ASK 65536 h:1") ≡ None) × (redirect (codes "MOVED 7") ≡ None) × (redirect (codes "ASK 7 h:70000") ≡ None)
