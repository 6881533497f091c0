-- What is written: the messages on a failed write and on want of memory, where an input is wrong, and the verdicts on a
-- certificate.
use Rattle.std.specs.Prelude.{ℕ, ◌+◌, List, ◌++◌, codes, decimal, Option, None, Some}
use Rattle.lit_base.specs.declared.fault.Fault.{Fault}
use Rattle.lit_base.specs.declared.fault.Fault.TheVariants.{ListTooLarge, LiteralTooLong, OutOfMemory, TooManyLiterals, TooManyPatterns}
use Rattle.lit_cert.specs.declared.reason.Reason.{Reason}
use Rattle.lit_cert.specs.declared.reason.Reason.TheVariants.{Length, Ends, Total, EndRow, Step}
use Rattle.plan_file.specs.declared.fault.Cause.{Cause}
use Rattle.plan_file.specs.declared.fault.Cause.TheVariants.{Count, Flags, Literal, Magic, NotCertified, Order, Runs, Short, Trailing, Version}
use Rattle.plan_pack.specs.declared.stop.Refusal.{Refusal}
use Rattle.plan_pack.specs.declared.stop.Refusal.TheVariants.{NoCertificate, NoLiterals, NoPlan, NoPlanFile, NotHex, Patterns, Unusable}

-- on a write to standard output that failed
abbrev pub write_fault : List ℕ
write_fault = codes "litplan: refused (18)\n"

-- on want of memory
abbrev pub out_of_memory : List ℕ
out_of_memory = codes "litplan: refused (1)\n"

-- the verdict that a certificate holds
abbrev pub optimal : ℕ → List ℕ
optimal cost = codes "optimal " ++ (decimal cost ++ codes "\n")

-- the verdict that it does not: the first condition that fails
abbrev pub not_certified : Reason → List ℕ
not_certified Length = codes "not certified: length\n"
not_certified Ends = codes "not certified: ends\n"
not_certified Total = codes "not certified: total\n"
not_certified (EndRow r p) = codes "not certified: end row " ++ (decimal r ++ (codes " " ++ (decimal p ++ codes "\n")))
not_certified (Step r p q) = codes "not certified: step " ++ (decimal r ++ (codes " " ++ (decimal p ++ (codes " " ++ (decimal q ++ codes "\n")))))

-- where a list is wrong, if that is known: the first line that is refused, from 1, and its limit
abbrev pub wrong_list : Fault → Option (List ℕ)
wrong_list OutOfMemory = None
wrong_list TooManyPatterns = Some (codes "line 4097: more than 4096 lines\n")
wrong_list (LiteralTooLong place) = Some (codes "line " ++ (decimal (place + 1) ++ codes ": more than 4095 bytes\n"))
wrong_list TooManyLiterals = Some (codes "more than 4096 literals\n")
wrong_list ListTooLarge = Some (codes "more than 1048576 bytes in all lines, or 1052672 with their newlines\n")

-- where a certificate is wrong: the first line that is
abbrev pub wrong_line : ℕ → List ℕ
wrong_line line = codes "line " ++ (decimal line ++ codes ": wrong, missing or after the end\n")

-- why a field of a plan file is wrong
abbrev pub wrong_field : Cause → List ℕ
wrong_field Short = codes "the field is cut short\n"
wrong_field Magic = codes "a plan file begins with LPLF\n"
wrong_field Version = codes "the version is neither 1 nor 2\n"
wrong_field Count = codes "the number of plans or of literals is out of range\n"
wrong_field Flags = codes "a flag is unknown in this version\n"
wrong_field Literal = codes "the literal is empty, too long or not folded\n"
wrong_field Order = codes "the literal is not after the previous literal\n"
wrong_field Runs = codes "the number of runs is out of range\n"
wrong_field (NotCertified reason) = not_certified reason
wrong_field Trailing = codes "bytes follow the last plan\n"

-- where a plan file is wrong: the first byte of the field, from 0, and why
abbrev pub wrong_byte : ℕ → Cause → List ℕ
wrong_byte place cause = codes "byte " ++ (decimal place ++ (codes ": " ++ wrong_field cause))

-- where an input is wrong, for a refusal that says so
abbrev pub wrong_input : Refusal → Option (List ℕ)
wrong_input (Unusable name) = None
wrong_input (Patterns fault) = wrong_list fault
wrong_input (NotHex name line) = Some (codes "line " ++ (decimal line ++ codes ": not hexadecimal\n"))
wrong_input NoLiterals = Some (codes "no line has a literal\n")
wrong_input (NoCertificate line) = Some (wrong_line line)
wrong_input (NoPlanFile place cause) = Some (wrong_byte place cause)
wrong_input (NoPlan name place) = None

-- the head of a certificate that can be read: how many runs it has, and their cost
abbrev pub certificate_head : ℕ → ℕ → List ℕ
certificate_head runs cost = codes "runs " ++ (decimal runs ++ (codes ", cost " ++ (decimal cost ++ codes "\n")))
