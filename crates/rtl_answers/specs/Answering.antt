-- What the program `compaan_rtl` comes to on a bundle, a design or the clocks.
use Rattle.std.specs.Prelude.{ℕ, ℤ, Bool, true, false, List, Result, Ok, Err}
use Rattle.rtl_line.specs.declared.words.Order.{Order}
use Rattle.rtl_line.specs.declared.words.Policy.{Policy}
use Rattle.rtl_line.specs.declared.words.Ports.{Ports}
use Rattle.rtl_text.specs.Networks.{rtl_text}
use Rattle.port_rtl.specs.Designs.{port_rtl_text}
use Rattle.command_answers.specs.Printing.{Prints}
use Rattle.command_answers.specs.Replies.{Reply, done}
use Rattle.command_answers.specs.declared.refusal.Refusal.{Refusal}
use Rattle.rtl_answers.specs.Clocking.{clocks_lines, clocks_text}
use Rattle.rtl_answers.specs.Designing.{Designs}
use Rattle.rtl_answers.specs.declared.answer.Answer.{Answer}
use Rattle.rtl_answers.specs.declared.answer.Answer.TheVariants.{Design, PortDesign, Clocks}

-- what is written of an answer
abbrev pub answer_text : Answer → List ℕ
answer_text (Design design) = rtl_text design.nest design.network design.units
answer_text (PortDesign design) = port_rtl_text design.nest design.network design.units
answer_text (Clocks told) = clocks_lines told

-- the reply that an answer is
abbrev pub reply_of : Answer → Reply
reply_of answer = done (answer_text answer)

-- an answer as the reply that it is, what is written of it with its status, or a refusal
abbrev pub as_reply : Result Answer Refusal → Result Reply Refusal
as_reply (Ok answer) = Ok (reply_of answer)
as_reply (Err refusal) = Err refusal

-- the clocks where they are asked for, and else a design, with ports that take turns so
abbrev pub AnswersWith : Bool → Ports → Policy → List (List ℕ × ℤ) → List ℕ
    → Result Reply Refusal → Type 0
AnswersWith true ports policy = Prints (clocks_text ports policy)
AnswersWith false ports policy = Designs ports policy

-- what an order comes to on a bundle
abbrev pub Answers : Order → List ℕ → Result Reply Refusal → Type 0
Answers order = AnswersWith order.clocks order.ports order.policy order.params
