-- Direct calls, and which of them are refused before their token is laid out.
use Rattle.std.specs.Prelude.{ℕ, suc, Bool, true, false, cond, not, ◌&&◌, List, [], ◌∷◌, length, ℤ, pos, negsuc, Some, None, Option, ◌==◌, nat_le}
use Rattle.std.specs.List.{list_all}
use Rattle.layout.specs.declared.token.Fold.{Fold}
use Rattle.layout.specs.declared.token.Anchor.{Anchor}
use Rattle.layout.specs.Tokens.{Token, Text, Break, Opening, Ending}
use Rattle.direct.specs.declared.fault.DirectFault.{DirectFault}
use Rattle.direct.specs.declared.fault.DirectFault.TheVariants.{Tokens, Range, Receipt, Blocks}

-- a call: its token, and with an Ending the receipt's job and token number
pub data Call : Type 0 where
  text_call : List ℕ → Call
  break_call : ℕ → ℤ → Call
  opening_call : ℤ → Fold → Anchor → Call
  ending_call : ℕ → ℕ → Call

-- the token that it hands in
abbrev pub call_token : Call → Token
call_token (text_call bytes) = Text bytes
call_token (break_call blanks offset) = Break blanks offset
call_token (opening_call offset fold anchor) = Opening offset fold anchor
call_token (ending_call job number) = Ending

-- every byte is 0x20 or more
abbrev pub printable : List ℕ → Bool
printable bytes = list_all (λ b. nat_le 0x20 b) bytes

-- an offset is -16 to 16
abbrev pub near : ℤ → Bool
near (pos n) = nat_le n 16
near (negsuc n) = nat_le n 15

-- the call's numbers are in range
abbrev pub in_range : Call → Bool
in_range (text_call bytes) = nat_le 1 (length bytes) && (nat_le (length bytes) 255 && printable bytes)
in_range (break_call blanks offset) = nat_le blanks 8 && near offset
in_range (opening_call offset fold anchor) = near offset
in_range (ending_call job number) = true

-- the token numbers of the Openings of the blocks that are open after `ts`, the innermost first, where the first of `ts` has number k and the blocks bs are open before
abbrev pub without_first : List ℕ → List ℕ
without_first [] = []
without_first (b ∷ bs) = bs

abbrev pub opened_from : ℕ → List ℕ → List Token → List ℕ
opened_from k bs [] = bs
opened_from k bs (Text bytes ∷ ts) = opened_from (suc k) bs ts
opened_from k bs (Break blanks offset ∷ ts) = opened_from (suc k) bs ts
opened_from k bs (Opening offset fold anchor ∷ ts) = opened_from (suc k) (k ∷ bs) ts
opened_from k bs (Ending ∷ ts) = opened_from (suc k) (without_first bs) ts

abbrev pub opened : List Token → List ℕ
opened ts = opened_from 0 [] ts

-- the receipt's numbers are those of the job and of the innermost open block
abbrev pub meets : List ℕ → ℕ → ℕ → ℕ → Bool
meets [] own job number = false
meets (b ∷ bs) own job number = job == own && number == b

-- does the call's receipt, if it takes one, meet the innermost open block?
abbrev pub met : ℕ → List Token → Call → Bool
met own ts (text_call bytes) = true
met own ts (break_call blanks offset) = true
met own ts (opening_call offset fold anchor) = true
met own ts (ending_call job number) = meets (opened ts) own job number

-- is there a block more to be had for the call?
abbrev pub shallow_enough : List Token → Call → Bool
shallow_enough ts (text_call bytes) = true
shallow_enough ts (break_call blanks offset) = true
shallow_enough ts (opening_call offset fold anchor) = nat_le (length (opened ts)) 63
shallow_enough ts (ending_call job number) = true

-- the most tokens of a direct job
abbrev pub most_tokens : ℕ
most_tokens = 1000000

-- the refusal of a call behind the tokens `ts` of the job of that number, by 2, 8, 9 and 5 in this order; the refused token's number is the count of tokens
abbrev pub refusal : ℕ → List Token → Call → Option DirectFault
refusal own ts c =
    cond (nat_le most_tokens (length ts)) (Some (Tokens (length ts)))
    (cond (not (in_range c)) (Some (Range (length ts)))
    (cond (not (met own ts c)) (Some (Receipt (length ts)))
    (cond (not (shallow_enough ts c)) (Some (Blocks (length ts))) None)))
