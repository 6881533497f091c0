-- What lines in hexadecimal say.
use Rattle.std.proofs.Common.{◌≡◌, ◌≢◌, ℕ, List, None, Some, Result, Ok, Err, ap}
use Rattle.hex.specs.declared.error.FromHexError.{FromHexError}
use Rattle.hex.proofs.HexLemmas.{decode_of-digits, decode_of-encode_lower, decode_of-encode_upper, decode_of-ok}
use Rattle.hex.specs.Hex.{decode_of}
use Rattle.plan_pack.specs.Notations.{HexLaw, decoded}

-- bytes that were decoded
decoded-ok : (r : Result (List ℕ) FromHexError) (bytes : List ℕ) → decoded r ≡ Some bytes → r ≡ Ok bytes
decoded-ok (Ok found) bytes e = (cc)
decoded-ok (Err fault) bytes e = (cc)

decoded-some : (r : Result (List ℕ) FromHexError) (bytes : List ℕ) → r ≡ Ok bytes → decoded r ≢ None
decoded-some (Ok found) bytes e none = (cc)
decoded-some (Err fault) bytes e none = (cc)

pub hex-law : HexLaw
hex-law = record {
  small = λ bytes are. ap decoded (decode_of-encode_lower bytes are);
  capital = λ bytes are. ap decoded (decode_of-encode_upper bytes are);
  pairs = λ line even digits. let d = decode_of-digits line even digits in decoded-some (decode_of line) d.0 d.1;
  only = λ line bytes said. let d = decode_of-ok line bytes (decoded-ok (decode_of line) bytes said) in (d.2, d.1, d.3);
}
