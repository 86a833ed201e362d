-- What contracts see of what the code hears and answers.
use Rattle.std.specs.Prelude.{◌≡◌, ◌⊎◌, map, All, ⊤}
use Rattle.wire_records.specs.CommandRecords.{HasShortRow}
use Rattle.wire_records.specs.Views.{command_in}
use Rattle.order_text.specs.Lines.{Alone, OfLadder}
use Rattle.order_text.specs.declared.question.Question.{Question}
use Rattle.answer_text.specs.declared.header.Recipient.{Recipient}
use Rattle.desk_messages.specs.Desks.{Desks}
use Rattle.desk_lines.specs.declared.hearing.Heard as code
use Rattle.desk_lines.specs.declared.hearing.Heard.TheVariants as said
use Rattle.desk_lines.specs.declared.wishes.Wish as code_wish
use Rattle.desk_lines.specs.declared.wishes.Wish.TheVariants as wished
use Rattle.desk_lines.specs.declared.wishes.TextFault.TheVariants.{NotYours, NoAccount}
use Rattle.desk_lines.specs.Hearing as heard
use Rattle.desk_lines.specs.Wishes as wish
use Rattle.desk_lines.specs.Rights.{MayKnow, IsAboutSome}

-- what was heard, as one of the definitions
abbrev pub heard_in : code.Heard → heard.Heard
heard_in said.Nothing = heard.Nothing
heard_in said.Noise = heard.Noise
heard_in (said.Other sender) = heard.Other sender
heard_in (said.From sender text) = heard.From sender text.now

-- what a text asks for, as one of the definitions
abbrev pub wish_in : code_wish.Wish → wish.Wish
wish_in wished.Nothing = wish.Nothing
wish_in (wished.Serve command) = wish.Serve (Alone (command_in command))
wish_in (wished.ServeAll commands) = wish.Serve (OfLadder (map command_in commands))
wish_in (wished.Answer question) = wish.Answer question
wish_in (wished.Refuse why) = wish.Refuse why

-- the weight vectors of what is to be served fit their records
abbrev pub IsShort : code_wish.Wish → Type 0
IsShort wished.Nothing = ⊤
IsShort (wished.Serve command) = HasShortRow (command_in command)
IsShort (wished.ServeAll commands) = All (λ command. HasShortRow (command_in command)) commands
IsShort (wished.Answer question) = ⊤
IsShort (wished.Refuse why) = ⊤

-- a question of a sender is answered, or it isn't the sender's, or is about an account that isn't there
abbrev pub IsAnsweredAs : Desks → Recipient → Question → wish.Wish → Type 0
IsAnsweredAs d sender question w =
    ((w ≡ wish.Answer question) × MayKnow sender question × IsAboutSome d question)
    ⊎ (((w ≡ wish.Refuse NotYours) × (¬ MayKnow sender question))
    ⊎ ((w ≡ wish.Refuse NoAccount) × MayKnow sender question × (¬ IsAboutSome d question)))
