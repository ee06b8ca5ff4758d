pub mod Writes
pub mod Questions
pub mod Answers
pub mod Words
pub mod Fields
pub mod Faults
pub mod Reading
pub mod QuestionReading
pub mod Ports
-- the words of this crate, wherever one stands
pub use Writes.{IsWrite, Write}
pub use Questions.{IsEndpoint, IsMost, IsQuestion, IsQuestionLine, IsRow, between_text, call_text}
pub use Questions.{data_with, direction_text, ins_text, is_outs, kind_asked, outs_text}
pub use Questions.{question_bytes, question_in_digits, question_line, speed_text, token_text}
pub use Answers.{AreAtMost, HasRoom, IsData, IsSaidLine, IsSetupData, MayAnswer, MayPush, MaySay}
pub use Answers.{answer_bytes, answer_in_digits, answer_setup, asks_call, row_limit, said_bytes}
pub use Answers.{said_in_digits, said_line, said_setup, send_limit, send_room, send_to_limit}
pub use Answers.{write_limit, write_text}
pub use Words.{AreWords, all_printable, is_printable, words}
pub use Fields.{address_named, address_spelled, address_text, has_bytes, hex_length, hex_value}
pub use Fields.{is_dash, is_decimal, is_hex, is_other_request, number_within}
pub use Faults.{Field, Form, argument_fault, bytes_field, endpoint_field, fault_by, fields_in, form}
pub use Faults.{form_fault, form_fits, forms, has_other_count, is_bad_hex, is_bad_length}
pub use Faults.{is_bad_number, is_bad_path, is_no_request, is_other_count, is_other_setup}
pub use Faults.{is_some_bad, packets_field, path_field, push, request_field, root_field}
pub use Faults.{roots_field, setting_field, status_field, version_field, words_fault}
pub use Reading.{bare_control, both, counted_write, fault_in, is_write, may_push, request_with}
pub use Reading.{result_map, said_of, setup_in_bytes}
unfoldable pub use Reading.{alone, bytes_of_word, clear_answer, clear_of_answer, control_answer}
unfoldable pub use Reading.{count_in, data_answer, endpoint_named, interface_answer, line_says}
unfoldable pub use Reading.{look_answer, number_of_word, path_in, poll_answer, receive_answer}
unfoldable pub use Reading.{receive_from_answer, request_of_word, roots_answer, second_answer}
unfoldable pub use Reading.{send_answer, send_to_answer, shape_says, status_change, status_of_word}
unfoldable pub use Reading.{text_of_line, three_say, with_one, with_three, with_two, words_say}
unfoldable pub use Reading.{write_answer, write_of_words}
pub use QuestionReading.{row_or, setup_by}
unfoldable pub use QuestionReading.{after_pre, asked_in, behind_pre_word, call_in, cut_at}
unfoldable pub use QuestionReading.{data_behind, direction_in, endpoint_in, in_question}
unfoldable pub use QuestionReading.{ins_question, out_question, outs_question, port_question}
unfoldable pub use QuestionReading.{question_of, restart_question, setup_in, setup_question}
unfoldable pub use QuestionReading.{some_bytes, toggle_named, token_behind, token_of_words}
pub use Ports.{MaySayTo, answer_path, is_narrow, line_fault, names_ports, port_fault, said_path}
pub use Ports.{said_to}
pub use declared.answer.Answer.{Answer}
pub use declared.answer.Answer.TheVariants.{Ack, Clear, ClearOf, ControlIn, ControlOut, Data, Done}
pub use declared.answer.Answer.TheVariants.{End, Interface, Look, Nak, News, Nothing, Poll, Receive}
pub use declared.answer.Answer.TheVariants.{ReceiveFrom, Roots, RootsAndRows, Send, SendTo, Show}
pub use declared.answer.Answer.TheVariants.{Stall}
pub use declared.answer.Said.{Said}
pub use declared.answer.Said.TheVariants.{Answered, Changed}
pub use declared.fault.WireFault.{WireFault}
pub use declared.fault.WireFault.TheVariants.{BadCharacter, BadHex, BadLength, BadNumber, BadPath}
pub use declared.fault.WireFault.TheVariants.{LineTooLong, NoAnswer}
pub use declared.question.Asked.{Asked}
pub use declared.question.DataPacket.{DataPacket}
pub use declared.question.Endpoint.{Endpoint}
pub use declared.question.Question.{Question}
pub use declared.reading.Hubs.{Hubs}
pub use declared.words.Words.TheVariants.{Four, More, One, Three, Two}
