use Rattle.lti_words.proofs.words_of_launch.launch_words.Goals as goal

pub returns-in-Err-BadUrl : goal.returns-in-Err-BadUrl
returns-in-Err-BadUrl c = λ launch is. c.in-Err-BadUrl.ensures.bad (cc) is.parts is.url_is
