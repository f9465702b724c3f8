-- The messages, as texts and by number.
use Rattle.std.specs.Prelude.{◌≡◌, ◌==◌, ℕ, List, codes, if◌then◌else◌}
use Rattle.wkt_read.specs.Items.{bad_number}
use Rattle.wkt_read.specs.declared.error.ReadError.{ReadError}
use Rattle.wkt_read.specs.declared.error.ReadError.TheVariants.{Text, Memory}
use Rattle.wkt_read.specs.declared.messages.Message.{Message}
use Rattle.wkt_read.specs.declared.messages.Message.TheVariants.{Format, NonAscii, Kind, Word, End, Open, Close, X, Y, Z, M, Member, BadNumber}

-- What a message says.
abbrev pub message_text : Message → List ℕ
message_text Format = codes "Invalid WKT format"
message_text NonAscii = codes "Encountered non-ascii word"
message_text Kind = codes "Invalid type encountered"
message_text Word = codes "Unexpected word before open paren"
message_text End = codes "End of stream"
message_text Open = codes "Missing open parenthesis for type"
message_text Close = codes "Missing closing parenthesis for type"
message_text X = codes "Expected a number for the X coordinate"
message_text Y = codes "Expected a number for the Y coordinate"
message_text Z = codes "Expected a number for the Z coordinate"
message_text M = codes "Expected a number for the M coordinate"
message_text Member = codes "Expected a word in GEOMETRYCOLLECTION"
message_text BadNumber = bad_number

-- Its number.
abbrev pub message_number : Message → ℕ
message_number Format = 1
message_number NonAscii = 2
message_number Kind = 3
message_number Word = 4
message_number End = 5
message_number Open = 6
message_number Close = 7
message_number X = 8
message_number Y = 9
message_number Z = 10
message_number M = 11
message_number Member = 12
message_number BadNumber = 13

-- The message of a number, if it has one.
abbrev pub numbered : ℕ → Message
numbered n =
    if n == 1 then Format
    else (if n == 2 then NonAscii
    else (if n == 3 then Kind
    else (if n == 4 then Word
    else (if n == 5 then End
    else (if n == 6 then Open
    else (if n == 7 then Close
    else (if n == 8 then X
    else (if n == 9 then Y
    else (if n == 10 then Z
    else (if n == 11 then M
    else (if n == 12 then Member
    else BadNumber)))))))))))

-- The error is this message, as a text.
abbrev pub Says : ReadError → Message → Type 0
Says (Text t) message = t.now ≡ message_text message
Says (Memory e) message = ⊥
